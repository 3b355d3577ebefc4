use Rattle.std.proofs.Common.{refl, ◌∙◌}
use Rattle.policy.proofs.Asked.{passed}
use Rattle.policy.proofs.Watched.{begin_refused, begin_done}
use Rattle.policy.proofs.watch.Watch.begin.Goals as goal

pub returns-in_err-starts : goal.returns-in_err-starts
returns-in_err-starts g c =
    let h = begin_refused (g.P.Policy.meaning c.args.self.now.policy) c.args.row.now c.args.self.now.begun c.in_err-starts.field-0.0 c.starts.new.row
    c.in_err-starts.ensures.answer c.starts.ensures.row in
    record { answer = passed _ c.from_residual.ensures.1 ∙ h.0; watch = h.1; policy = refl }

pub returns : goal.returns
returns g c =
    let h = begin_done (g.P.Policy.meaning c.args.self.now.policy) c.args.row.now c.args.self.now.begun c.starts.new.row
    c.in_ok-starts.ensures.answer c.starts.ensures.row in
    record { answer = h.0; watch = h.1; policy = refl }
