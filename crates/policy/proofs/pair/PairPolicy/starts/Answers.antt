use Rattle.std.proofs.Common.{◌≡◌, ◌+◌, ◌≤◌, ◌∙◌, arith}
use Rattle.model.specs.Kinds.{pair_automaton}
use Rattle.policy.proofs.Pairs.{pair_starts}
use Rattle.policy.proofs.Asked.{passed, starts_refused, starts_allowed}
use Rattle.policy.proofs.pair.PairPolicy.starts.Goals as goal

pub returns-in_err-may_start : goal.returns-in_err-may_start
returns-in_err-may_start g c =
    let A = pair_automaton (g.P.Policy.meaning c.args.self.now.first) (g.Q.Policy.meaning c.args.self.now.second) in
    let h = starts_refused A c.args.row.now c.in_err-may_start.field-0.0 (rw c.width.ensures at c.in_err-may_start.ensures) in
    record { answer = passed _ c.from_residual.ensures.1 ∙ h.0; row = h.1 }

pub returns : goal.returns
returns g c =
    let A = g.P.Policy.meaning c.args.self.now.first in
    let C = g.Q.Policy.meaning c.args.self.now.second in
    let row = c.args.row.now in
    let h = starts_allowed (pair_automaton A C) row (rw c.width.ensures at c.in_ok-may_start.ensures) in
    let n : A.width + C.width ≤ 32 = h.0.narrow in
    let a : c.from-a.result ≡ A.width = omega arith in
    record {
      answer = h.1;
      row = pair_starts A C (g.P.Policy.shows c.args.self.now.first).starts row n h.0.room c.starts.new.row c.starts-2.new.row c.from-a.result a
          c.starts.ensures.row c.starts-2.ensures.row ∙ h.2;
    }
