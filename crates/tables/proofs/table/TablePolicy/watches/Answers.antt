use Rattle.std.proofs.Common.{Ok, ap, ◌∙◌}
use Rattle.model.specs.Tables.{table_in, table_automaton}
use Rattle.policy.proofs.Asked.{passed, watched_refused, watched_known}
use Rattle.tables.proofs.table.TablePolicy.watches.Goals as goal

pub returns-in_err-known : goal.returns-in_err-known
returns-in_err-known c =
    let A = table_automaton (table_in c.args.self.now.file.now) in
    passed _ c.from_residual.ensures.1 ∙ watched_refused A c.args.call c.in_err-known.field-0.0 c.in_err-known.ensures

pub returns : goal.returns
returns c =
    let A = table_automaton (table_in c.args.self.now.file.now) in
    ap Ok c.has_row.ensures ∙ watched_known A c.args.call c.in_ok-known.ensures
