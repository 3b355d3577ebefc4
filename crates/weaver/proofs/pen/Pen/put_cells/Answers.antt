use Rattle.std.proofs.Common.{◌≡◌, pos, [], ◌∷◌, length, take, get_or, ap, arith, length-take, w32, SFits, rules, subst}
use Rattle.std.proofs.lemmas.Int.{to_z-of_z}
use Rattle.model.specs.Words.{flat, quad_of}
use Rattle.weaver.specs.Pens.{Wrote}
use Rattle.weaver.proofs.Bytes.{cell_put, cells_length, cells_more}
use Rattle.weaver.proofs.pen.Pen.put_cells.Goals as goal

pub put-requires : goal.put-requires
put-requires c =
    let l = ap length c.to_be_bytes.ensures in
    let n = cells_length (take c.loop-cell.cell-index c.args.cells.now) in
    let t : length (take c.loop-cell.cell-index c.args.cells.now) ≡ c.loop-cell.cell-index = simp length-take (omega arith) in
    let w = c.loop-cell.invariant in
    let room = c.requires in
    omega arith

pub loop-cell-preserved : goal.loop-cell-preserved
loop-cell-preserved c =
    let z = get_or c.args.cells.now c.loop-cell.cell-index (pos 0) in
    let f : SFits w32 z = search rules in
    let e : c.to_be_bytes.result ≡ flat (quad_of z ∷ []) = cell_put z _ _ f (to_z-of_z w32 z f) c.to_be_bytes.ensures in
    let n = cells_length (take c.loop-cell.cell-index c.args.cells.now) in
    let t : length (take c.loop-cell.cell-index c.args.cells.now) ≡ c.loop-cell.cell-index = simp length-take (omega arith) in
    let w = c.loop-cell.invariant in
    let room = c.requires in
    cells_more c.args.cells.now c.loop-cell.cell-index (pos 0) c.loop-cell-test.true w (subst (λ b. Wrote c.loop-cell.self b c.put.new.self) e c.put.ensures) (omega arith)
