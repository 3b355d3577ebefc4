use Rattle.std.proofs.Common.{◌≡◌, length, rules}
use Rattle.machine.proofs.Calling.{room, pushed}
use Rattle.machine.proofs.frames.Callers.push.Goals as goal

pub returns : goal.returns
returns c =
    let r = room c.args.self.now c.if-self-ge15.false in
    let l : length c.args.self.now.frames ≡ 15 = search rules in
    record { room = rw r; callers = rw r (pushed c.args.self.now c.args.frame c.if-self-ge15.false l) }
