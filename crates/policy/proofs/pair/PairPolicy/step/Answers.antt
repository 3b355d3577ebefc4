use Rattle.std.proofs.Common.{◌≡◌, ◌++◌, take, drop, true, false, Some, None, Ok, sym, refl, ap, ◌∙◌, ap₂, take-append-drop}
use denote.Enum.Bare.{sameb}
use Rattle.model.specs.contracts.Verdict.{the_type}
use Rattle.model.specs.declared.Verdict.{Verdict}
use Rattle.model.specs.Kinds.{pair_automaton}
use Rattle.policy.proofs.Pairs.{refused_is}
use Rattle.policy.proofs.Asked.{passed, step_refused, step_allowed}
use Rattle.policy.proofs.pair.PairPolicy.step.Goals as goal

pub returns-in_err-may_step : goal.returns-in_err-may_step
returns-in_err-may_step g c =
    let A = pair_automaton (g.P.Policy.meaning c.args.self.now.first) (g.Q.Policy.meaning c.args.self.now.second) in
    let e = c.args.event.now in
    let h = step_refused A e c.args.row.now c.in_err-may_step.field-0.0 (rw c.width-w.ensures at c.in_err-may_step.ensures) in
    record { answer = passed _ c.from_residual.ensures.1 ∙ h.0; row = h.1 }

-- what a verdict is, by whether it is that of a refused event
taken_by : (v : Verdict) → false ≡ sameb the_type v Verdict.Refused → v ≡ Verdict.Taken
taken_by Verdict.Taken e = refl
taken_by Verdict.Refused e = cc

refused_by : (v : Verdict) → true ≡ sameb the_type v Verdict.Refused → v ≡ Verdict.Refused
refused_by Verdict.Taken e = cc
refused_by Verdict.Refused e = refl

pub returns-else-eq : goal.returns-else-eq
returns-else-eq g c =
    let A = pair_automaton (g.P.Policy.meaning c.args.self.now.first) (g.Q.Policy.meaning c.args.self.now.second) in
    let e = c.args.event.now in
    let v = taken_by c.step_both-verdict.result c.if-eq.ensures in
    let row = c.args.row.now in
    let new = c.step_both-verdict.new.cells in
    let h = step_allowed A e row (rw c.width-w.ensures at c.in_ok-may_step.ensures) in
    let w : c.from-w.result ≡ A.width = c.from-w.ensures ∙ c.width-w.ensures ∙ h.roomy.told in
    let d = take A.width new in
    let n = c.from-w.result in
    let k : Some (take n new) ≡ A.step e (take n row) = c.step_both-verdict.ensures.cells v in
    let q : A.step e (take A.width row) ≡ Some d = ap (λ m. A.step e (take m row)) (sym w) ∙ sym k ∙ ap (λ m. Some (take m new)) w in
    let r : new ≡ take n new ++ drop n row = sym (take-append-drop n new) ∙ ap (λ y. take n new ++ y) (c.step_both-verdict.ensures.past v) in
    record { answer = ap Ok v ∙ h.answer (Some d) q; row = r ∙ ap (λ n. take n new ++ drop n row) w ∙ h.after (Some d) q }

pub returns-then-eq : goal.returns-then-eq
returns-then-eq g c =
    let A = pair_automaton (g.P.Policy.meaning c.args.self.now.first) (g.Q.Policy.meaning c.args.self.now.second) in
    let e = c.args.event.now in
    let v = refused_by c.step_both-verdict.result c.if-eq.ensures in
    let row = c.args.row.now in
    let h = step_allowed A e row (rw c.width-w.ensures at c.in_ok-may_step.ensures) in
    let w : c.from-w.result ≡ A.width = c.from-w.ensures ∙ c.width-w.ensures ∙ h.roomy.told in
    let n = c.from-w.result in
    let a = c.from-a.result in
    let k : A.step e (take n row) ≡ None = refused_is _ (sym v ∙ c.step_both-verdict.ensures.answer) in
    let q : A.step e (take A.width row) ≡ None = ap (λ m. A.step e (take m row)) (sym w) ∙ k in
    let r = c.put_back.ensures ∙ ap (λ m. take m c.new-aside.result.cells ++ drop m c.step_both-verdict.new.cells) c.new-aside.ensures.width ∙ ap₂ ◌++◌ c.new-aside.ensures.cells (c.step_both-verdict.ensures.kept v) ∙ take-append-drop a row in
    record { answer = ap Ok v ∙ h.answer None q; row = r ∙ h.after None q }
