use Rattle.std.proofs.Common.{ap, rules}
use borrow.Author.Tests.{tests}
use Rattle.std.proofs.lemmas.Iterator.{YieldsList-from_take}
use Rattle.std.proofs.lemmas.Iterator.Consumers.{YieldsList-from_first}
use Rattle.std.proofs.lemmas.Iterator.Search.{any_from_yields_List}
use Rattle.model.specs.Tables.{row_for}
use Rattle.tables.specs.Rows.{shown, rows_left}
use Rattle.tables.proofs.reader.is_taken.Goals as goal

pub returns : goal.returns
returns c =
    any_from_yields_List (row_for c.args.call c.args.moment) c.any.new.self _ _ c.any.ensures.ran
    (YieldsList-from_take c.args.count (YieldsList-from_first shown rows_left (rows_left c.args.rows) (ap rows_left c.take.ensures.source)) c.take.ensures.count) (λ x b q k. search (rules, tests))
