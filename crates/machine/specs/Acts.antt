-- Acts and what is seen, as the code has them.
use Rattle.std.specs.Prelude.{ℕ, Bool, true, false, List, [], ◌∷◌, ◌++◌, length, drop, Some, None, Ok, Err, Option, Result}
use Rattle.model.specs.declared.Refusal.{Refusal}
use Rattle.model.specs.declared.Refusal.TheVariants.{AreaTooShort}
use Rattle.model.specs.Machine.{is_raised, reply_value}
use Rattle.model.specs.Runs as model
use Rattle.machine.specs.declared.acts.Act.{Act}
use Rattle.machine.specs.declared.acts.Seen.{Seen}

abbrev pub act_of : Act → model.Act
act_of (Act.Step t) = model.Act.step_of t
act_of (Act.Answer t r) = model.Act.answer_to t (is_raised r) (reply_value r)

abbrev pub seen_of : Seen → model.Seen
seen_of (Seen.Call t k a) = model.Seen.call t k a
seen_of (Seen.Reply t r) = model.Seen.reply t (is_raised r) (reply_value r)

-- what is seen of one act: one thing at most
abbrev pub seen_list : Option Seen → List model.Seen
seen_list None = []
seen_list (Some s) = seen_of s ∷ []

-- how much was seen, where the area has room for one thing for each act
abbrev pub run_said : Bool → List model.Seen → Result ℕ Refusal
run_said true ss = Ok (length ss)
run_said false ss = Err AreaTooShort

-- an area with what was seen over its first places
abbrev pub written : List model.Seen → List model.Seen → List model.Seen
written area ss = ss ++ drop (length ss) area
