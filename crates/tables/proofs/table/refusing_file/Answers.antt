use Rattle.std.proofs.Common.{refl}
use Rattle.model.specs.Fields.{field}
use Rattle.model.specs.Tables.{refusing_table}
use Rattle.tables.proofs.table.refusing_file.Goals as goal

pub returns : goal.returns
unfolding field refusing_table
returns c = refl
