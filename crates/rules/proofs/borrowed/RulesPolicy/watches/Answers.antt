use Rattle.std.proofs.Common.{Ok, Err, ap, ◌∙◌}
use Rattle.std.proofs.lemmas.Result.{err_from_is_err_and}
use Rattle.model.specs.Rules.{rules_in, rules_automaton}
use Rattle.policy.proofs.Asked.{watched_refused, watched_known}
use Rattle.rules.proofs.borrowed.RulesPolicy.watches.Goals as goal

pub returns-in_err-known : goal.returns-in_err-known
returns-in_err-known c =
    let p = err_from_is_err_and c.from_residual.result c.from_residual.ensures.1 in
    p.1 ∙ ap Err p.2 ∙ watched_refused (rules_automaton (rules_in c.args.self.now.file.bytes.now)) c.args.call c.in_err-known.field-0.0 c.in_err-known.ensures

pub returns : goal.returns
returns c =
    let p = rules_in c.args.self.now.file.bytes.now in
    ap Ok c.has_rule.ensures ∙ watched_known (rules_automaton p) c.args.call c.in_ok-known.ensures
