use Rattle.std.proofs.Common.{◌+◌, ◌*◌, ◌≤◌, List, length}
use Rattle.model.specs.Rules.{Update, emit_updates}
use Rattle.rules.specs.Views.{WrittenUpdates}
use Rattle.rules.specs.Writer.{Cells}
use Rattle.rules.proofs.Wrote.{Wrote}
use Rattle.rules.proofs.writer.put_updates.Given as goal

-- the code of the updates left is left to write
abbrev pub invariant-loop-u : goal.invariant-loop-u
invariant-loop-u l =
    (us : List Update) → WrittenUpdates l.scope.cells l.scope.arguments l.updates us → Cells l.scope.cells l.first → l.at + 4 * length (emit_updates l.first us) ≤ length l.initial.area →
    (vs : List Update) × WrittenUpdates l.scope.cells l.scope.arguments l.u-iterator.0.now vs × Wrote l.initial.area l.at (emit_updates l.first us) (emit_updates l.first vs) l.to l.area
