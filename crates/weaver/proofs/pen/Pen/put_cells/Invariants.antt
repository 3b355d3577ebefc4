use Rattle.std.proofs.Common.{map, take}
use Rattle.model.specs.Words.{flat, quad_of}
use Rattle.weaver.specs.Pens.{Wrote}
use Rattle.weaver.proofs.pen.Pen.put_cells.Given as goal

-- the numbers up to here are written
abbrev pub invariant-loop-cell : goal.invariant-loop-cell
invariant-loop-cell l = Wrote l.initial.self (flat (map quad_of (take l.cell-index l.cells))) l.self
