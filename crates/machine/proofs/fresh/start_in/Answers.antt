use Rattle.std.proofs.Common.{arith}
use Rattle.machine.proofs.Started.{started}
use Rattle.machine.proofs.fresh.start_in.Goals as goal

pub returns : goal.returns
returns c = started c.args.entries.now c.loop-i.threads (omega arith) (λ k h. c.loop-i.invariant.1 k (omega arith))
