use Rattle.std.proofs.Common.{Ok, ap, ◌∙◌}
use Rattle.policy.proofs.Asked.{passed}
use Rattle.policy.proofs.Pairs.{watched_first, watched_second, watched_both, or_then, or_else}
use Rattle.policy.proofs.pair.PairPolicy.watches.Goals as goal

pub returns-in_err-a : goal.returns-in_err-a
returns-in_err-a g c =
    passed _ c.from_residual.ensures.1 ∙
    watched_first (g.P.Policy.meaning c.args.self.now.first) (g.Q.Policy.meaning c.args.self.now.second) c.args.call c.in_err-a.field-0.0 c.in_err-a.ensures

pub returns-in_err-b : goal.returns-in_err-b
returns-in_err-b g c =
    passed _ c.from_residual-in_err-b.ensures.1 ∙
    watched_second (g.P.Policy.meaning c.args.self.now.first) (g.Q.Policy.meaning c.args.self.now.second) c.args.call c.in_err-b.field-0.0 c.in_err-b.ensures

pub returns-then-a : goal.returns-then-a
returns-then-a g c =
    ap Ok (or_then _ c.in_ok-b.b c.if-a.true) ∙
    watched_both (g.P.Policy.meaning c.args.self.now.first) (g.Q.Policy.meaning c.args.self.now.second) c.args.call _ _ c.in_ok-a.ensures c.in_ok-b.ensures

pub returns-else-a : goal.returns-else-a
returns-else-a g c =
    ap Ok (or_else c.in_ok-a.a _ c.if-a.false) ∙
    watched_both (g.P.Policy.meaning c.args.self.now.first) (g.Q.Policy.meaning c.args.self.now.second) c.args.call _ _ c.in_ok-a.ensures c.in_ok-b.ensures
