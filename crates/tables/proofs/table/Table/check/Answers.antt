use Rattle.std.proofs.Common.{◌∙◌}
use Rattle.policy.proofs.Asked.{passed}
use Rattle.tables.proofs.TableReading.{head_is, answer_long, answer_head, answer_rows, answer_apart}
use Rattle.tables.proofs.table.Table.check.Goals as goal

pub returns-then-file-gt-LONGEST : goal.returns-then-file-gt-LONGEST
returns-then-file-gt-LONGEST c = answer_long c.args.file.now c.if-file-gt-LONGEST.true

pub returns-in_err-states : goal.returns-in_err-states
returns-in_err-states c =
    passed _ c.from_residual.ensures.1 ∙ answer_head c.args.file.now c.if-file-gt-LONGEST.false c.in_err-states.field-0.0 c.in_err-states.ensures

pub returns-in_err-check_rows : goal.returns-in_err-check_rows
returns-in_err-check_rows c =
    passed _ c.from_residual-in_err-check_rows.ensures.1 ∙ answer_rows c.args.file.now c.if-file-gt-LONGEST.false c.in_ok-states.states c.in_ok-states.ensures c.in_err-check_rows.field-0.0
    c.in_err-check_rows.ensures

pub check_apart-requires : goal.check_apart-requires
check_apart-requires c =
    let h = head_is c.args.file.now c.in_ok-states.states c.in_ok-states.ensures in
    record { head = h.6; few = h.7 }

pub returns : goal.returns
returns c =
    c.check_apart.ensures ∙ answer_apart c.args.file.now c.if-file-gt-LONGEST.false c.in_ok-states.states c.in_ok-states.ensures c.in_ok-check_rows.ensures
