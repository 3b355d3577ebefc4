-- Whether what is due in a rule policy was read.
use Rattle.std.specs.Prelude.{Ok, Err}
use Rattle.model.specs.Fields.{Read}

-- whether it was read, or why not
abbrev pub forget : {A : Type 0} → Read A → Read (Unit {0})
forget (Ok a) = Ok tt
forget (Err e) = Err e
