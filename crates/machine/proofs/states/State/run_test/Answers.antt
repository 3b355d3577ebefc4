use Rattle.std.proofs.Common.{◌<◌, length, rules}
use Rattle.model.specs.Policy.{turn}
use Rattle.machine.proofs.Rows.{tested}
use Rattle.machine.proofs.states.State.run_test.Goals as goal

pub returns-in-Some : goal.returns-in-Some
returns-in-Some c =
    let m = c.args.self.now in
    let r : c.args.t < length m.threads = search rules in
    let e = c.in-Some.ensures in
    let p = tested m c.args.t c.requires.steps.there r _ c.in-Some.n _ _ (turn m.args c.args.i m.cells m.scratch) e.value e.cells e.scratch c.skip.ensures in
    record { value = p.0; after = p.1 }
