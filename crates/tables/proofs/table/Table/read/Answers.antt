use Rattle.std.proofs.Common.{is_err, ap}
use Rattle.model.proofs.TableFiles.{reads_if}
use Rattle.tables.proofs.table.Table.read.Goals as goal

pub invariant_of-result : goal.invariant_of-result
invariant_of-result c = record { ok = reads_if c.args.file.now c.check.result c.check.ensures (ap is_err c.in_ok-check.was) }
