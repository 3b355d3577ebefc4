use Rattle.std.proofs.Common.{◌<◌, length, rules}
use Rattle.machine.proofs.Rows.{locked}
use Rattle.machine.proofs.states.State.lock.Goals as goal

pub returns : goal.returns
returns c =
    let m = c.args.self.now in
    let r : c.args.t < length m.threads = search rules in
    record { value = rw c.in_default.is; after = locked m c.args.t c.requires.there r _ _ _ c.in_default.is c.next.ensures c.arguments.ensures c.copy.ensures }
