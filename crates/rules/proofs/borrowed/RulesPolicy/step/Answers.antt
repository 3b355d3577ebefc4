use Rattle.std.proofs.Common.{◌≡◌, [], ◌∷◌, ◌++◌, length, take, drop, Ok, Err, sym, refl, ap, ◌∙◌, subst, ap₂, arith}
use Rattle.std.proofs.lemmas.Result.{err_from_is_err_and}
use Rattle.model.specs.Calls.{told_width, verdict_of, row_behind}
use Rattle.model.specs.Rules.{rules_in, rules_automaton, rules_of, rules_step}
use Rattle.policy.specs.Calls.{may_step}
use Rattle.policy.proofs.Asked.{step_refused, step_allowed}
use Rattle.rules.specs.Views.{Written}
use Rattle.rules.proofs.Acts.{behind_row}
use Rattle.rules.proofs.borrowed.RulesPolicy.step.Goals as goal

pub returns-in_err-may_step : goal.returns-in_err-may_step
returns-in_err-may_step c =
    let p = err_from_is_err_and c.from_residual.result c.from_residual.ensures.1 in
    let A = rules_automaton (rules_in c.args.self.now.file.bytes.now) in
    let e = c.args.event.now in
    let v = c.width-width.ensures.value in
    let w : c.width-width.result ≡ told_width A = (let u = c.width-width.ensures.few in omega arith) in
    let h = step_refused A e c.args.row.now c.in_err-may_step.field-0.0 (c.in_err-may_step.ensures ∙ ap (λ n. may_step c.args.event.now.call n (length c.args.row.now)) w) in
    record { answer = p.1 ∙ ap Err p.2 ∙ h.0; row = h.1 }

pub returns : goal.returns
returns c =
    let q = rules_in c.args.self.now.file.bytes.now in
    let A = rules_automaton q in
    let row = c.args.row.now in
    let e = c.args.event.now in
    let v = c.width-width.ensures.value in
    let w : c.width-width.result ≡ told_width A = (let u = c.width-width.ensures.few in omega arith) in
    let h = step_allowed A e row (c.in_ok-may_step.ensures ∙ ap (λ n. may_step c.args.event.now.call n (length row)) w) in
    let r = c.rules_for-rules.ensures in
    let wr = subst (λ n. Written n c.rules_for-rules.result.now r.0) (sym v) r.1 in
    let z = c.step_cells.ensures.answer r.0 wr in
    let y = c.step_cells.ensures.cells r.0 wr in
    let R = rules_of r.0 c.args.event.now.call c.args.event.now.moment in
    let k : c.from.result ≡ A.width = (let g = c.from.ensures in omega arith) in
    let o = A.step e (take A.width row) in
    let a = e.args ++ (e.answer ∷ []) in
    let s : rules_step a (take c.from.result row) R ≡ o = ap (λ n. rules_step a (take n row) R) k ∙ ap (rules_step a (take A.width row)) r.2 in
    record {
      answer = ap Ok (z ∙ ap verdict_of s) ∙ h.answer o refl;
      row = ap₂ (λ x n. x ++ drop n row) (y ∙ ap₂ (λ n b. row_behind (take n row) b) k s) k ∙ behind_row A row o ∙ h.after o refl;
    }
