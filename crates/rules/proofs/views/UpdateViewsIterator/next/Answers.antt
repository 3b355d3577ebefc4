use Rattle.std.proofs.Common.{length, get_or, drop, Some, sym, ap, ◌∙◌, arith}
use Rattle.rules.proofs.Shown.{unsplit_update, update_split, no_update_given, same_update}
use Rattle.rules.proofs.views.UpdateViewsIterator.next.Goals as goal

pub returns-in_err-update-clause-steps : goal.returns-in_err-update-clause-steps
returns-in_err-update-clause-steps c = rw c.from_residual.ensures (no_update_given c.args.self.now.0.now _ (unsplit_update c.args.self.now.0.now c.in_err-update.ensures.parts))

pub returns-in_err-cell-clause-steps : goal.returns-in_err-cell-clause-steps
returns-in_err-cell-clause-steps c =
    rw c.from_residual-in_err-cell.ensures
    (no_update_given c.args.self.now.0.now _ (λ n a u z v e.
    let p = update_split c.args.self.now.0.now _ _ c.in_ok-update.ensures.parts n a u z v e in
    let l = ap length p.0 in
    let k = c.in_err-cell.ensures.cases in
    omega arith))

pub returns-clause-steps : goal.returns-clause-steps
returns-clause-steps c =
    let k = c.in_ok-cell.ensures.cases in
    let k1 = k.1 in
    let l = c.in_ok-update.ensures.less in
    record {
      parts = λ n a u z v e.
          let p = update_split c.args.self.now.0.now _ _ c.in_ok-update.ensures.parts n a u z v e in
          let d = sym k.0 ∙ p.0 in
          (ap Some (same_update _ _ _ _ (ap (λ x. get_or x 0 0) d) (ap (drop 1) d)), p.1);
      less = omega arith;
    }
