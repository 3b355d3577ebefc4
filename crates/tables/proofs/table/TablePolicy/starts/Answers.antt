use Rattle.std.proofs.Common.{set, pos, ap, ◌∙◌, arith, w32, SFits, rules}
use Rattle.std.proofs.lemmas.Int.{to_z-of_z}
use Rattle.model.specs.Tables.{table_in, table_automaton}
use Rattle.tables.proofs.TableRows.{first_cell}
use Rattle.policy.proofs.Asked.{passed, starts_refused, starts_allowed}
use Rattle.tables.proofs.table.TablePolicy.starts.Goals as goal

pub returns-in_err-may_start : goal.returns-in_err-may_start
returns-in_err-may_start c =
    let A = table_automaton (table_in c.args.self.now.file.now) in
    let h = starts_refused A c.args.row.now c.in_err-may_start.field-0.0 c.in_err-may_start.ensures in
    record { answer = passed _ c.from_residual.ensures.1 ∙ h.0; row = h.1 }

pub returns : goal.returns
returns c =
    let A = table_automaton (table_in c.args.self.now.file.now) in
    let row = c.args.row.now in
    let h = starts_allowed A row c.in_ok-may_start.ensures in
    let f : SFits w32 c.from.result = search rules in
    let v = to_z-of_z w32 c.from.result f ∙ c.from.ensures ∙ ap pos c.start.ensures in
    record { answer = h.1; row = ap (set row 0) v ∙ first_cell row _ (omega (arith, h.0.room)) ∙ h.2 }
