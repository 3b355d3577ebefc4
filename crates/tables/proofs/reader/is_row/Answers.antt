use Rattle.std.proofs.Common.{◌≡◌, ◌+◌, ◌≤◌, length, get_or, drop, ◌∙◌, rules}
use borrow.Author.Tests.{tests}
use Rattle.std.proofs.lemmas.List.{take_rest}
use Rattle.std.proofs.lemmas.Iterator.{YieldsList-from_slice}
use Rattle.std.proofs.lemmas.Iterator.Search.{all_from_yields_List}
use Rattle.std.specs.List.{list_all}
use Rattle.tables.proofs.TableReading.{known_state, row_well_by}
use Rattle.tables.proofs.reader.is_row.Goals as goal

pub returns-then-moment-le2 : goal.returns-then-moment-le2
returns-then-moment-le2 c =
    let n = c.args.states in
    let row = c.args.row.now in
    let all : c.all.result ≡ list_all (known_state n) (drop 2 row) =
    all_from_yields_List (known_state n) c.all.new.self _ _ c.all.ensures.ran (YieldsList-from_slice (drop 2 row) (c.iter.ensures.rest ∙ take_rest row 2)) (λ x b q k. search (rules, tests)) in
    let size : length row ≡ 2 + n = search (rules, tests) in
    let call : get_or row 0 0 ≤ 63 = search (rules, tests) in
    row_well_by n row _ size call (search (rules, tests)) all
