use Rattle.machine.proofs.Traces.{front, behind}
use Rattle.machine.proofs.acts.note.Goals as goal

pub returns-in-Some : goal.returns-in-Some
returns-in-Some c =
    let xs = c.args.seen.now in
    record { count = rw c.in-Some.is; front = rw c.in-Some.is (front xs c.args.n c.in-Some.s c.requires); behind = behind xs c.args.n c.in-Some.s }
