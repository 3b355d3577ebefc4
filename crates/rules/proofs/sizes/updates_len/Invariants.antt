use Rattle.std.proofs.Common.{◌≡◌, ℕ, ◌+◌, ◌≤◌, List, length}
use Rattle.model.specs.Rules.{Update, emit_updates}
use Rattle.rules.specs.Views.{WrittenUpdates}
use Rattle.rules.proofs.sizes.updates_len.Given as goal

-- what was counted and what the rest makes is what all updates make
abbrev pub invariant-loop-u : goal.invariant-loop-u
invariant-loop-u l =
    (l.len + length l.u-iterator.0.now ≤ length l.updates)
    × ((n a : ℕ) (us : List Update) → WrittenUpdates n a l.updates us →
    (vs : List Update) × WrittenUpdates n a l.u-iterator.0.now vs × (l.len + length (emit_updates 0 vs) ≡ length (emit_updates 0 us)))
