use Rattle.std.proofs.Common.{refl}
use Rattle.model.proofs.Watch.{watches}
use Rattle.policy.proofs.watch.Watch.new.Goals as goal

pub returns : goal.returns
returns g c = record { value = refl; law = watches (g.P.Policy.meaning c.args.policy) (g.P.Policy.blocks c.args.policy) (g.P.Policy.shows c.args.policy) }
