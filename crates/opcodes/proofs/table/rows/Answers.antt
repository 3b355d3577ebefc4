use Rattle.std.proofs.Common.{refl}
use Rattle.model.specs.Words.{table}
use Rattle.opcodes.proofs.table.rows.Goals as goal

pub returns : goal.returns
unfolding table
returns c = refl
