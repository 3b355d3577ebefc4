use Rattle.std.proofs.Common.{◌≡◌, ◌++◌, length, drop, Err, sym, ap, ◌∙◌, ap₂, arith}
use lib.ListN.{length-map}
use Rattle.std.proofs.lemmas.Result.{err_from_is_err_and}
use Rattle.model.specs.Words.{quads, signed_of}
use Rattle.model.specs.Calls.{told_width}
use Rattle.model.specs.Rules.{rules_in, rules_automaton}
use Rattle.policy.specs.Calls.{may_start}
use Rattle.policy.proofs.Asked.{starts_refused, starts_allowed}
use Rattle.rules.proofs.borrowed.RulesPolicy.starts.Goals as goal

pub returns-in_err-may_start : goal.returns-in_err-may_start
returns-in_err-may_start c =
    let p = err_from_is_err_and c.from_residual.result c.from_residual.ensures.1 in
    let A = rules_automaton (rules_in c.args.self.now.file.bytes.now) in
    let v = c.width.ensures.value in
    let f = c.width.ensures.few in
    let w : c.width.result ≡ told_width A = omega arith in
    let h = starts_refused A c.args.row.now c.in_err-may_start.field-0.0 (c.in_err-may_start.ensures ∙ ap (λ n. may_start n (length c.args.row.now)) w) in
    record { answer = p.1 ∙ ap Err p.2 ∙ h.0; row = h.1 }

pub returns : goal.returns
returns c =
    let A = rules_automaton (rules_in c.args.self.now.file.bytes.now) in
    let v = c.width.ensures.value in
    let f = c.width.ensures.few in
    let w : c.width.result ≡ told_width A = omega arith in
    let h = starts_allowed A c.args.row.now (c.in_ok-may_start.ensures ∙ ap (λ n. may_start n (length c.args.row.now)) w) in
    let s = c.starts.ensures.value in
    let k = sym (length-map (quads c.starts.result.now) signed_of) ∙ ap length s in
    record { answer = h.1; row = c.start_cells.ensures ∙ ap₂ (λ x n. x ++ drop n c.args.row.now) s k ∙ h.2 }
