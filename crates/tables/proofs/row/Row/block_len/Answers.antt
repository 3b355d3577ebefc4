use Rattle.std.proofs.Common.{◌≡◌, ◌+◌, ◌*◌, length, filter, sym, ap, ◌∙◌, rules}
use borrow.Author.Tests.{tests}
use Rattle.std.proofs.lemmas.Iterator.{YieldsList-from_slice}
use Rattle.std.proofs.lemmas.Iterator.Consumers.{YieldsList-from_filter, count_from_yields_List}
use Rattle.tables.proofs.TableRows.{is_next, states_size, row_size_is}
use Rattle.tables.proofs.row.Row.block_len.Goals as goal

pub returns-clause-value : goal.returns-clause-value
returns-clause-value c f q =
    let ns = c.args.self.now.nexts.now in
    let n : c.count.result ≡ length (filter is_next ns) =
    count_from_yields_List c.filter-states.result _ c.count.ensures.ran (YieldsList-from_filter _ is_next (YieldsList-from_slice ns cc) c.filter-states.ensures.closure (λ x b q k. search (rules, tests))) in
    states_size f q ns ∙ row_size_is ns ∙ ap (λ m. 1 + 7 * m) (sym n)
