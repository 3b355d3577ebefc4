use Rattle.std.proofs.Common.{sym, arith}
use Rattle.std.proofs.lemmas.Result.{err_from_is_err_and}
use Rattle.rules.proofs.Reading.{Here, here, too_long, unheaded, misheaded, unstarted, misstarted, started}
use Rattle.rules.proofs.reader.open.Goals as goal
use Rattle.rules.proofs.reader.open.Goals.{In_ok-h, In_ok-s}

head : (c : In_ok-h) → Here c.args.file.now 65 0 c.in_ok-h.h.contents.now c.in_ok-h.h.next
head c = here c.args.file.now 65 0 c.in_ok-h.h.contents.now c.in_ok-h.h.next c.in_ok-h.ensures

starts : (c : In_ok-s) → Here c.args.file.now 66 c.in_ok-h.h.next c.in_ok-s.s.contents.now c.in_ok-s.s.next
starts c = here c.args.file.now 66 c.in_ok-h.h.next c.in_ok-s.s.contents.now c.in_ok-s.s.next c.in_ok-s.ensures

pub returns-then-file-gt65535 : goal.returns-then-file-gt65535
returns-then-file-gt65535 c = sym (too_long c.args.file.now (omega arith))

pub returns-in_err-h : goal.returns-in_err-h
returns-in_err-h c =
    let p = err_from_is_err_and c.from_residual.result c.from_residual.ensures.1 in
    rw (p.1, p.2) (sym (unheaded c.args.file.now (omega arith) c.in_err-h.field-0.0 c.in_err-h.ensures))

pub returns-then-not-heading : goal.returns-then-not-heading
returns-then-not-heading c =
    sym (misheaded c.args.file.now (omega arith) _ _ (head (goal.at.returns-then-not-heading c).In_ok-h) (sym c.if-not-heading.ensures))

pub returns-in_err-s : goal.returns-in_err-s
returns-in_err-s c =
    let p = err_from_is_err_and c.from_residual-in_err-s.result c.from_residual-in_err-s.ensures.1 in
    rw (p.1, p.2)
    (sym (unstarted c.args.file.now (omega arith) _ _ (head (goal.at.returns-in_err-s c).In_ok-h) (sym c.if-not-heading.ensures) c.in_err-s.field-0.0
    c.in_err-s.ensures))

pub returns-then-s-cells : goal.returns-then-s-cells
returns-then-s-cells c =
    sym (misstarted c.args.file.now (omega arith) _ _ (head (goal.at.returns-then-s-cells c).In_ok-h) (sym c.if-not-heading.ensures) _ _
    (starts (goal.at.returns-then-s-cells c).In_ok-s) c.if-s-cells.true)

pub returns : goal.returns
returns c =
    sym (started c.args.file.now (omega arith) _ _ (head (goal.at.returns c).In_ok-h) (sym c.if-not-heading.ensures) _ _
    (starts (goal.at.returns c).In_ok-s) c.if-s-cells.false)
