-- The states in rows of state tables, and the tests of their blocks.
use Rattle.std.specs.Prelude.{ℕ, cond, List, [], ◌∷◌, pos, Some, None, Option, ◌==◌}
use Rattle.model.specs.declared.Operator.TheVariants.{Equal}
use Rattle.model.specs.declared.Test.{Test}
use Rattle.model.specs.declared.Test.TheVariants.{Skip, Skz, Mset, Mcell, Store, Op}

-- the state that a byte of a row tells, none for 255, which tells that the event is refused
abbrev pub state_of : ℕ → Option ℕ
state_of b = cond (b == 255) None (Some b)

-- the instructions of state q, whose next one is n, in cell f, so many others being behind them
abbrev pub state_tests : ℕ → ℕ → ℕ → ℕ → List Test
state_tests f q n behind = Mcell 0 f ∷ Mset 1 (pos q) ∷ Op 0 Equal ∷ Skz 0 3 ∷ Mset 0 (pos n) ∷ Store 0 f ∷ Skip behind ∷ []
