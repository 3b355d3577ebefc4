use Rattle.std.proofs.Common.{◌≡◌, ◌*◌, List, ℤ, length, take, map, ap, ◌∙◌, subst, arith}
use Rattle.model.specs.Words.{flat, quad_of}
use Rattle.model.proofs.Places.{length_field}
use Rattle.weaver.specs.Pens.{Wrote}
use Rattle.weaver.proofs.Bytes.{field_more, cells_length}
use Rattle.weaver.proofs.weaving.Weaving.put_starts.Goals as goal
use Rattle.weaver.proofs.weaving.Weaving.put_starts.Goals.{After-start_row-row}

module _ (g : _) (c : After-start_row-row g) where
  abbrev starts : List ℤ
  starts = (g.P.Policy.meaning c.args.self.now.policy.now).starts

  long : length starts ≡ c.from-width.result
  long =
      let l = (g.P.Policy.shows c.args.self.now.policy.now).starts in
      let n = c.args.self.now.limited.cells in
      let t = c.width.ensures in
      let f = c.from-width.ensures in
      omega arith

  written : take c.from-width.result c.start_row-row.result ≡ starts
  written =
      let l = (g.P.Policy.shows c.args.self.now.policy.now).starts in
      ap (λ n. take n c.start_row-row.result) (let e = long in omega arith) ∙ c.start_row-row.ensures

pub returns : goal.returns
returns g c =
    let b = (goal.at.returns g c).After-start_row-row in
    let r = c.requires in
    let l = length_field 3 (flat (map quad_of (starts g b))) in
    let n = cells_length (starts g b) in
    let e = long g b in
    let h = c.put_head.ensures in
    field_more 3 (4 * c.from-width.result) (flat (map quad_of (starts g b))) h
    (subst (λ zs. Wrote c.put_head.new.self (flat (map quad_of zs)) c.put_cells.new.self) (written g b) c.put_cells.ensures) (omega arith) (omega arith)
