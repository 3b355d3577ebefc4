use Rattle.std.proofs.Common.{◌<◌, length, Ok, sym, ap, rules}
use Rattle.machine.proofs.Rows.{unlocked, not_unlocked}
use Rattle.machine.proofs.states.State.unlock.Goals as goal

pub returns-then-not-holds : goal.returns-then-not-holds
returns-then-not-holds c =
    let m = c.args.self.now in
    let r : c.args.t < length m.threads = search rules in
    let b = sym c.if-not-holds.ensures in
    record { value = rw b (ap Ok c.finish.ensures.says); after = not_unlocked m c.args.t c.requires.there r _ b c.finish.ensures.after }

pub returns : goal.returns
returns c =
    let m = c.args.self.now in
    let r : c.args.t < length m.threads = search rules in
    let b = sym c.if-not-holds.ensures in
    record { value = rw b; after = unlocked m c.args.t c.requires.there r _ b c.next.ensures }
