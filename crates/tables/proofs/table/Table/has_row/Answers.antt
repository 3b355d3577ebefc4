use Rattle.std.proofs.Common.{eqb, ◌∙◌, rules}
use borrow.Author.Tests.{tests}
use Rattle.std.proofs.lemmas.Iterator.Consumers.{YieldsList-from_first}
use Rattle.std.proofs.lemmas.Iterator.Search.{any_from_yields_List}
use Rattle.model.specs.Tables.{Row, table_in}
use Rattle.tables.specs.Rows.{shown, rows_left}
use Rattle.tables.proofs.TableRows.{has_any}
use Rattle.tables.proofs.table.Table.has_row.Goals as goal

pub returns : goal.returns
returns c =
    let rows = (table_in c.args.self.now.file.now).rows in
    any_from_yields_List (λ (r : Row). eqb r.call c.args.call) c.any.new.self _ _ c.any.ensures.ran (YieldsList-from_first shown rows_left rows c.rows.ensures) (λ x b q k. search (rules, tests)) ∙
    has_any c.args.call rows
