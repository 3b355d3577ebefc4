use Rattle.std.proofs.Common.{◌≡◌, ◌+◌, get_or, drop, None, Ok, sym, ap, ◌∙◌, ap₂}
use Rattle.std.proofs.lemmas.List.{take_rest}
use Rattle.std.proofs.lemmas.Result.{err_from_is_err_and}
use Rattle.model.specs.Fields.{fields}
use Rattle.model.specs.Moments.{moment_of}
use Rattle.model.specs.Policy.{arguments}
use Rattle.model.specs.Rules.{update_field, rule_field}
use Rattle.rules.specs.Reader.{headed, bad_expr, bad_update, bad_rule, one_bad, faulty}
use Rattle.rules.specs.declared.tokens.Scope.{Scope}
use Rattle.rules.proofs.Reading.{here, behind_guard, rule_unheaded, rule_unguarded, rule_missized, rule_rest}
use Rattle.rules.proofs.reader.rule.Goals as goal
use Rattle.rules.proofs.reader.rule.Goals.{After-updates}

pub returns-then-not-headed : goal.returns-then-not-headed
returns-then-not-headed c =
    sym (rule_unheaded c.args.cells c.args.at c.args.holder.now
    (ap headed (sym (take_rest c.args.holder.now (c.args.at + 3))) ∙ sym c.if-not-headed.ensures))

pub returns-in_err-g : goal.returns-in_err-g
returns-in_err-g c =
    let p = err_from_is_err_and c.from_residual.result c.from_residual.ensures.1 in
    rw (p.1, p.2)
    (sym (rule_unguarded c.args.cells c.args.at c.args.holder.now
    (ap headed (sym (take_rest c.args.holder.now (c.args.at + 3))) ∙ sym c.if-not-headed.ensures) c.in_err-g.field-0.0 c.in_err-g.ensures))

pub returns-then-not-triples : goal.returns-then-not-triples
returns-then-not-triples c =
    sym (rule_missized c.args.cells c.args.at c.args.holder.now
    (ap headed (sym (take_rest c.args.holder.now (c.args.at + 3))) ∙ sym c.if-not-headed.ensures) _ _
    (here c.args.holder.now 68 (c.args.at + 5) c.in_ok-g.g.contents.now c.in_ok-g.g.next c.in_ok-g.ensures)
    (sym c.if-not-triples.ensures))

-- what is found behind the guard
rest : (c : After-updates) → one_bad (bad_rule c.args.cells) (rule_field c.args.cells c.args.at (drop (c.args.at + 3) c.args.holder.now))
    ≡ behind_guard c.fault-bad.result c.updates.result
rest c =
    let t = take_rest c.args.holder.now (c.args.at + 3) in
    let m = c.from.ensures ∙ ap (λ xs. moment_of (get_or xs 1 0)) t in
    let a : record { cells = c.args.cells; arguments = arguments (moment_of (get_or (drop (c.args.at + 3) c.args.holder.now) 1 0)) } ≡ c.at-scope.result =
    sym (c.at-scope.ensures ∙ ap (λ t. record { cells = c.args.cells; arguments = arguments t }) m) in
    let w = rule_rest c.args.cells c.args.at c.args.holder.now (ap headed (sym t) ∙ sym c.if-not-headed.ensures) _ _
    (here c.args.holder.now 68 (c.args.at + 5) c.in_ok-g.g.contents.now c.in_ok-g.g.next c.in_ok-g.ensures)
    (sym c.if-not-triples.ensures) in
    w
    ∙ ap (λ (s : Scope). behind_guard (bad_expr s.cells s.arguments (c.args.at + 5) c.in_ok-g.g.contents.now)
    (faulty (bad_update s.cells s.arguments) None (fields 8 69 (update_field s.cells) c.in_ok-g.g.next (drop c.in_ok-g.g.next c.args.holder.now)))) a
    ∙ ap₂ behind_guard (sym c.fault-bad.ensures) (sym c.updates.ensures)

pub returns-in_err-more : goal.returns-in_err-more
returns-in_err-more c =
    let p = err_from_is_err_and c.from_residual-in_err-more.result c.from_residual-in_err-more.ensures.1 in
    rw (p.1, p.2) (sym (rest (goal.at.returns-in_err-more c).After-updates ∙ ap (behind_guard c.fault-bad.result) c.in_err-more.was))

pub returns : goal.returns
returns c =
    ap Ok c.or.ensures ∙ sym (rest (goal.at.returns c).After-updates ∙ ap (behind_guard c.fault-bad.result) c.in_ok-more.was)
