-- What a reading answers, as the tests write it.
use Rattle.std.specs.Prelude.{ℕ, Ok, Err}
use Rattle.model.specs.Machine.{Applet}
use Rattle.model.specs.Fields.{Read}
use Rattle.model.specs.Refusals.{number, place}

-- a refusal's number and place, zeros where the file reads
abbrev pub answer_of : Read Applet → ℕ × ℕ
answer_of (Ok a) = (0, 0)
answer_of (Err r) = (number r, place r)
