use Rattle.std.proofs.Common.{ap, ◌∙◌}
use Rattle.model.specs.Tables.{table_in}
use Rattle.model.proofs.TableFiles.{file_in}
use Rattle.tables.specs.Rows.{rows_of}
use Rattle.tables.proofs.TableRows.{table_rows}
use Rattle.tables.proofs.table.Table.rows.Goals as goal

pub new-requires-clause-head : goal.new-requires-clause-head
new-requires-clause-head c = (file_in c.args.self.now.file.now c.args.self.now.ok).head

pub returns : goal.returns
returns c =
    let f = c.args.self.now.file.now in
    c.new.ensures ∙ ap (λ n. rows_of n f) c.states.ensures.value ∙ table_rows f (table_in f) (file_in f c.args.self.now.ok)
