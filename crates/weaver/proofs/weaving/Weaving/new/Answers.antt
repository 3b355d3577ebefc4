use Rattle.std.proofs.Common.{rules}
use Rattle.weaver.specs.Pieces.{host_size}
use Rattle.weaver.proofs.SiteBytes.{made}
use Rattle.weaver.proofs.weaving.Weaving.new.Goals as goal

pub invariant_of-result-clause-sized : goal.invariant_of-result-clause-sized
invariant_of-result-clause-sized g c =
    let A = g.P.Policy.meaning c.args.policy.now in
    let B = g.P.Policy.blocks c.args.policy.now in
    made _ (host_size A B) _ c.from_fn.result 64 (λ i y q l k. search rules) c.from_fn.ensures.items
