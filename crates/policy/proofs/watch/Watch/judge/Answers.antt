use Rattle.std.proofs.Common.{take, refl, ap, ◌∙◌}
use Rattle.policy.proofs.Watched.{at, judge_refused, judge_begun, judge_unbegun}
use Rattle.policy.proofs.Asked.{passed, step_refused, step_allowed}
use Rattle.policy.proofs.watch.Watch.judge.Goals as goal

pub returns-in_err-may_step : goal.returns-in_err-may_step
returns-in_err-may_step g c =
    let A = g.P.Policy.meaning c.args.self.now.policy in
    let e = c.args.event.now in
    let s = step_refused A e c.args.row.now c.in_err-may_step.field-0.0 (rw c.width.ensures at c.in_err-may_step.ensures) in
    let h = judge_refused A e c.args.row.now c.args.self.now.begun c.in_err-may_step.field-0.0 c.args.row.now s.0 s.1 in
    record { answer = passed _ c.from_residual.ensures.1 ∙ h.0; watch = h.1; policy = refl }

pub returns-then-not-self : goal.returns-then-not-self
returns-then-not-self g c =
    let A = g.P.Policy.meaning c.args.self.now.policy in
    let e = c.args.event.now in
    let row = c.args.row.now in
    let s = step_allowed A e row (rw c.width.ensures at c.in_ok-may_step.ensures) in
    let h = judge_unbegun A e row c.args.self.now.begun _ c.if-not-self.true (s.answer (A.step e (take A.width row)) refl) in
    record { answer = h.0; watch = h.1; policy = refl }

pub returns-in_err-verdict : goal.returns-in_err-verdict
returns-in_err-verdict g c =
    let A = g.P.Policy.meaning c.args.self.now.policy in
    let e = c.args.event.now in
    let h = judge_refused A e c.args.row.now c.args.self.now.begun c.in_err-verdict.field-0.0 c.step.new.row
    c.in_err-verdict.ensures.answer c.step.ensures.row in
    record { answer = passed _ c.from_residual-in_err-verdict.ensures.1 ∙ h.0; watch = h.1; policy = refl }

pub returns : goal.returns
returns g c =
    let A = g.P.Policy.meaning c.args.self.now.policy in
    let e = c.args.event.now in
    let h = judge_begun A e c.args.row.now c.args.self.now.begun c.in_ok-verdict.verdict c.step.new.row c.if-not-self.false
    c.in_ok-verdict.ensures.answer c.step.ensures.row in
    record { answer = h.0; watch = ap (at c.step.new.row) c.goes_on-self.ensures ∙ h.1; policy = refl }
