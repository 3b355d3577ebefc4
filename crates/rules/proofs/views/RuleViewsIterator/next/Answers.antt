use Rattle.std.proofs.Common.{length, get_or, take, Some, refl, ap, ◌∙◌, arith}
use Rattle.model.specs.Moments.{moment_of}
use Rattle.model.proofs.Moments.{moment_back}
use Rattle.rules.proofs.Shown.{unsplit_rule, rule_split, guard_split, guard_unsplit, no_rule_given, same_rule}
use Rattle.rules.proofs.views.RuleViewsIterator.next.Goals as goal

pub returns-in_err-rule-clause-steps : goal.returns-in_err-rule-clause-steps
returns-in_err-rule-clause-steps c = rw c.from_residual.ensures (no_rule_given c.args.self.now.0.now _ (unsplit_rule c.args.self.now.0.now c.in_err-rule.ensures.parts))

pub returns-in_err-head-clause-steps : goal.returns-in_err-head-clause-steps
returns-in_err-head-clause-steps c =
    rw c.from_residual-in_err-head.ensures
    (no_rule_given c.args.self.now.0.now _ (λ n r z v e.
    let p = rule_split c.args.self.now.0.now _ _ c.in_ok-rule.ensures.parts n r z v e in
    let l = ap length p.0 in
    let k = c.in_err-head.ensures.cases in
    omega arith))

pub returns-in_err-guard-clause-steps : goal.returns-in_err-guard-clause-steps
returns-in_err-guard-clause-steps c =
    rw c.from_residual-in_err-guard.ensures
    (no_rule_given c.args.self.now.0.now _ (λ n r z v e.
    let p = rule_split c.args.self.now.0.now _ _ c.in_ok-rule.ensures.parts n r z v e in
    guard_unsplit n r _ c.in_ok-head.fields.now v p.0 c.in_ok-head.ensures.cases.1 c.in_err-guard.ensures.parts))

pub returns-clause-steps : goal.returns-clause-steps
returns-clause-steps c =
    let k = c.in_ok-head.ensures.cases in
    let k2 = k.2 in
    let l = c.in_ok-rule.ensures.less in
    let m = c.in_ok-guard.ensures.less in
    record {
      parts = λ n r z v e.
          let p = rule_split c.args.self.now.0.now _ _ c.in_ok-rule.ensures.parts n r z v e in
          let g = guard_split n r _ c.in_ok-head.fields.now _ _ v p.0 k.1 c.in_ok-guard.ensures.parts in
          let h = k.0 ∙ ap (take 2) p.0 in
          let t = c.from.ensures ∙ ap (λ d. moment_of (get_or d 1 0)) h ∙ moment_back r.moment in
          ap Some (same_rule _ _ _ _ _ _ _ _ _ _ (ap (λ d. get_or d 0 0) h) t g.0 g.1 p.1);
      less = (refl, omega arith);
    }
