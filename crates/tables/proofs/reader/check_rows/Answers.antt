use Rattle.std.proofs.Common.{◌≡◌, suc, ◌-◌, length, Err, sym, ap, ◌∙◌, arith}
use Rattle.policy.proofs.Asked.{passed}
use Rattle.std.specs.Iterator.Adapters.{enumerate_source, enumerate_count}
use Rattle.model.specs.declared.Refusal.TheVariants.{BadPolicySize}
use Rattle.policy.specs.Rows.{goes_to}
use Rattle.tables.specs.Reading.{rows_answer}
use Rattle.tables.proofs.TableReading.{rows_end, row_refused, row_many, row_bad, row_more}
use Rattle.tables.proofs.reader.check_rows.Goals as goal
use Rattle.tables.proofs.reader.check_rows.Goals.{then-i-eq-ROWS-via-then-i-eq-ROWS, then-i-eq-ROWS-via-else-i-eq-ROWS+then-not-is_row}

pub returns-in_err-row : goal.returns-in_err-row
returns-in_err-row c =
    let s = enumerate_source c.loop-i.i-iterator in
    let here = c.in-Some.ensures.steps.0.2 in
    passed _ c.from_residual.ensures.1 ∙
    row_refused c.args.states s.at c.args.file.now s.holder.now s.tag c.loop-i.invariant.held c.loop-i.invariant.row here.0 (64 - enumerate_count c.loop-i.i-iterator) c.in_err-row.field-0.0
    (rw c.in_err-row.was at here.2) ∙ c.loop-i.invariant.same

pub returns-then-i-eq-ROWS : goal.returns-then-i-eq-ROWS
returns-then-i-eq-ROWS c =
    let n = c.args.states in
    let f = c.args.file.now in
    let s = enumerate_source c.loop-i.i-iterator in
    let k = enumerate_count c.loop-i.i-iterator in
    let row = c.in_ok-row.row in
    let steps = c.in-Some.ensures.steps in
    let here = steps.0.2 in
    let e = rw c.in_ok-row.was at here.2 in
    let inv = c.loop-i.invariant in
    ap (λ q. Err (BadPolicySize q)) here.1 ∙
    elim c.then-i-eq-ROWS.branch [
      | then-i-eq-ROWS-via-then-i-eq-ROWS w ↦
          let z : 0 ≡ 64 - k = omega (arith, steps.1, w.if-i-eq-ROWS.true) in
          row_many n s.at f s.holder.now s.tag inv.held inv.row here.0 row.contents.now row.next e ∙ ap (λ m. rows_answer m n s.at f) z ∙ inv.same
      | then-i-eq-ROWS-via-else-i-eq-ROWS+then-not-is_row w ↦
          row_bad n s.at f s.holder.now s.tag inv.held inv.row here.0 row.contents.now row.next e (64 - k) (sym w.if-not-is_row.ensures) ∙ inv.same
    ]

pub loop-i-preserved : goal.loop-i-preserved
loop-i-preserved c =
    let n = c.args.states in
    let f = c.args.file.now in
    let s = enumerate_source c.loop-i.i-iterator in
    let t = enumerate_source c.next.new.self in
    let k = enumerate_count c.loop-i.i-iterator in
    let j = enumerate_count c.next.new.self in
    let row = c.in_ok-row.row in
    let steps = c.in-Some.ensures.steps in
    let here = steps.0.2 in
    let e = rw c.in_ok-row.was at here.2 in
    let inv = c.loop-i.invariant in
    let one : suc (64 - j) ≡ 64 - k = omega (arith, steps.1, steps.2, inv.few, c.if-i-eq-ROWS.false) in
    let at : t.at ≡ row.next = here.3 ∙ ap (goes_to (length s.holder.now)) c.in_ok-row.was in
    record {
      few = omega (arith, steps.1, steps.2, inv.few, c.if-i-eq-ROWS.false);
      held = steps.0.0 ∙ inv.held;
      row = steps.0.1 ∙ inv.row;
      same = ap (λ p. rows_answer (64 - j) n p f) at ∙
          sym (row_more n s.at f s.holder.now s.tag inv.held inv.row here.0 row.contents.now row.next e (64 - j) (sym c.if-not-is_row.ensures)) ∙
          ap (λ m. rows_answer m n s.at f) one ∙ inv.same;
    }

pub returns : goal.returns
returns c =
    let s = enumerate_source c.loop-i.i-iterator in
    let inv = c.loop-i.invariant in
    let here = c.in-None.ensures.steps.0.2 in
    rows_end c.args.states s.at c.args.file.now (64 - enumerate_count c.loop-i.i-iterator) (omega (arith, here.0, ap length inv.held)) ∙ inv.same
