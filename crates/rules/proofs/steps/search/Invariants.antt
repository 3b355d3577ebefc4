use Rattle.std.proofs.Common.{◌≡◌, List, [], ◌∷◌, ◌++◌}
use Rattle.model.specs.Rules.{Rule, rules_of, rules_step}
use Rattle.rules.specs.Views.{Written}
use Rattle.rules.proofs.Acts.{Sought, going}
use Rattle.rules.proofs.steps.search.Given as goal

-- the rules left decide the step
abbrev pub invariant-loop-r : goal.invariant-loop-r
invariant-loop-r l =
    Sought l.found
    × ((rs : List Rule) → Written l.scope.cells l.rules rs →
    (vs : List Rule) × Written l.scope.cells l.r-iterator.0.now vs
    × (rules_step (l.event.args ++ (l.event.answer ∷ [])) l.cells (rules_of rs l.event.call l.event.moment)
    ≡ going l.found (l.event.args ++ (l.event.answer ∷ [])) l.cells (rules_of vs l.event.call l.event.moment)))
