use Rattle.std.proofs.Common.{ap, ◌∙◌, rules}
use borrow.Author.Tests.{tests}
use Rattle.std.specs.Option.{option_map}
use Rattle.std.proofs.lemmas.Iterator.Consumers.{YieldsList-from_first}
use Rattle.std.proofs.lemmas.Iterator.Search.{find_from_yields_List}
use Rattle.model.specs.Tables.{table_in, row_for}
use Rattle.tables.specs.Rows.{shown, rows_left}
use Rattle.tables.proofs.TableRows.{nexts_shown, row_found}
use Rattle.tables.proofs.table.Table.row.Goals as goal

pub returns : goal.returns
returns c =
    let rows = (table_in c.args.self.now.file.now).rows in
    let test = row_for c.args.call c.args.moment in
    nexts_shown c.find.result ∙
    ap (option_map (λ r. r.nexts)) (find_from_yields_List test c.find.new.self _ c.find.result c.find.ensures.ran (YieldsList-from_first shown rows_left rows c.rows.ensures) (λ x b q k. search (rules, tests))) ∙
    row_found c.args.call c.args.moment rows
