-- What a search for the rule that acts finds.
use Rattle.std.specs.Prelude.{◌≡◌, ℕ, List, ℤ, Some, None}
use Rattle.model.specs.Rules.{Rule, Update, updated, rules_step}
use Rattle.rules.specs.Views.{WrittenUpdates}
use Rattle.rules.specs.declared.steps.Acting.{Acting}
use Rattle.rules.specs.declared.steps.Acting.TheVariants.{Unruled, Unmet, Met}

-- in a policy of n cells where the arguments below k may be read, with the arguments a and the cells c: what is found of the rules for an event
abbrev pub Meets : ℕ → ℕ → List ℤ → List ℤ → List Rule → Acting → Type 0
Meets n k a c rs Unruled = rules_step a c rs ≡ Some c
Meets n k a c rs Unmet = rules_step a c rs ≡ None
Meets n k a c rs (Met b) = (us : List Update) × WrittenUpdates n k b.now us × (rules_step a c rs ≡ Some (updated a us c))
