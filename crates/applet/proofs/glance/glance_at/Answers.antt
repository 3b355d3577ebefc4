use Rattle.opcodes.specs.Table.{row}
use Rattle.applet.proofs.Glancing.{seen_row, seen_blind}
use Rattle.applet.proofs.glance.glance_at.Goals as goal

pub returns-in-Some : goal.returns-in-Some
returns-in-Some c = seen_row c.args.methods c.args.op (row c.in-Some.e) c.glance_of.result c.in-Some.ensures c.glance_of.ensures

pub returns-in-None : goal.returns-in-None
returns-in-None c = seen_blind c.args.methods c.args.op
