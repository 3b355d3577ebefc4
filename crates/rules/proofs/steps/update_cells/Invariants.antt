use Rattle.std.proofs.Common.{◌≡◌, List, [], ◌∷◌, ◌++◌}
use Rattle.model.specs.Rules.{Update, updated}
use Rattle.rules.specs.Views.{WrittenUpdates}
use Rattle.rules.proofs.steps.update_cells.Given as goal

-- the updates left make of the cells what all made of them
abbrev pub invariant-loop-u : goal.invariant-loop-u
invariant-loop-u l =
    (us : List Update) → WrittenUpdates l.scope.cells l.scope.arguments l.updates us →
    (vs : List Update) × WrittenUpdates l.scope.cells l.scope.arguments l.u-iterator.0.now vs × (updated (l.event.args ++ (l.event.answer ∷ [])) vs l.cells ≡ updated (l.event.args ++ (l.event.answer ∷ [])) us l.initial.cells)
