use Rattle.std.proofs.Common.{◌≡◌}
use Rattle.std.specs.Slice.Iter.{chunks_rest, chunks_size}
use Rattle.model.specs.Rules.{tokens}
use Rattle.rules.specs.Tokens.{well_held}
use Rattle.rules.proofs.tokens.balanced.Given as goal

-- the rest is balanced with d values held if the whole is with none
abbrev pub invariant-loop-bytes : goal.invariant-loop-bytes
invariant-loop-bytes l =
    (chunks_size l.bytes-iterator ≡ 3)
    × (well_held l.d (tokens l.scope.cells l.scope.arguments (chunks_rest l.bytes-iterator)) ≡ well_held 0 (tokens l.scope.cells l.scope.arguments l.c))
