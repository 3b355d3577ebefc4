use Rattle.std.proofs.Common.{arith}
use Rattle.policy.proofs.Pairs.{pair_length}
use Rattle.policy.proofs.pair.PairPolicy.block_len.Goals as goal

pub returns : goal.returns
returns g c =
    let p = c.args.self.now.first in
    let q = c.args.self.now.second in
    omega (arith, pair_length (g.P.Policy.meaning p) (g.Q.Policy.meaning q) (g.P.Policy.blocks p) (g.Q.Policy.blocks q) (g.P.Policy.shows p) (g.Q.Policy.shows q) c.args.call c.args.moment 0)
