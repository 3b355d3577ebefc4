use Rattle.std.proofs.Common.{sym, ◌∙◌}
use Rattle.policy.proofs.Asked.{passed}
use Rattle.tables.proofs.TableReading.{told_contents, told_refusal, head_broken, head_bad, head_good}
use Rattle.tables.proofs.reader.check_head.Goals as goal

pub returns-in_err-head : goal.returns-in_err-head
returns-in_err-head c =
    passed _ c.from_residual.ensures.1 ∙ head_broken c.args.file.now c.in_err-head.field-0.0 (told_refusal _ _ c.in_err-head.ensures)

pub returns-then-not-is_head : goal.returns-then-not-is_head
returns-then-not-is_head c =
    head_bad c.args.file.now c.in_ok-head.head.contents.now (told_contents _ _ _ c.in_ok-head.ensures) (sym c.if-not-is_head.ensures)

pub returns : goal.returns
returns c =
    head_good c.args.file.now c.in_ok-head.head.contents.now (told_contents _ _ _ c.in_ok-head.ensures) (sym c.if-not-is_head.ensures)
