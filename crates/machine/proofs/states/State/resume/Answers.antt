use Rattle.std.proofs.Common.{◌<◌, length, sym, w32, rules}
use Rattle.std.proofs.lemmas.Int.{to_z-of_z}
use Rattle.machine.proofs.Rows.{resumed_held, resumed_free}
use Rattle.machine.proofs.states.State.resume.Goals as goal

pub returns-then-holds : goal.returns-then-holds
returns-then-holds c =
    let m = c.args.self.now in
    let r : c.args.t < length m.threads = search rules in
    resumed_held m c.args.t c.requires.1 r _ c.args.index c.args.v _ (to_z-of_z w32 c.args.v c.ranges.v) c.resume.ensures (sym c.if-holds.ensures)

pub returns-else-holds : goal.returns-else-holds
returns-else-holds c =
    let m = c.args.self.now in
    let r : c.args.t < length m.threads = search rules in
    resumed_free m c.args.t c.requires.1 r _ c.args.index c.args.v _ (to_z-of_z w32 c.args.v c.ranges.v) c.resume.ensures (sym c.if-holds.ensures)
