use Rattle.std.proofs.Common.{◌≡◌, ◌+◌, ◌*◌, length}
use Rattle.std.specs.Slice.Iter.{chunks_exact_rest, chunks_exact_size}
use Rattle.std.specs.Iterator.Adapters.{enumerate_source, enumerate_count}
use Rattle.rules.proofs.Starts.{Started}
use Rattle.rules.proofs.steps.start_cells.Given as goal

-- the values so far, then what was there
abbrev pub invariant-loop-i : goal.invariant-loop-i
invariant-loop-i l =
    (chunks_exact_size (enumerate_source l.i-iterator) ≡ 4)
    × (4 * enumerate_count l.i-iterator + length (chunks_exact_rest (enumerate_source l.i-iterator)) ≡ length l.bytes)
    × Started l.bytes (chunks_exact_rest (enumerate_source l.i-iterator)) l.initial.cells (enumerate_count l.i-iterator) l.cells
