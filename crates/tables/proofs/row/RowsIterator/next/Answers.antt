use Rattle.std.proofs.Common.{◌≡◌, ◌/◌, ◌∷◌, length, sym, ap, ap₂, ◌∙◌, arith, rules}
use Rattle.std.proofs.lemmas.List.{take_rest}
use Rattle.std.specs.Slice.Iter.{chunks_exact_rest, chunks_exact_size}
use Rattle.model.specs.Tables.{row_in}
use Rattle.tables.specs.Rows.{shown, rows_in, rows_left}
use Rattle.tables.proofs.TableRows.{rows_none, rows_some}
use Rattle.tables.proofs.row.RowsIterator.next.Goals as goal

pub returns-in_err-field-clause-steps : goal.returns-in_err-field-clause-steps
returns-in_err-field-clause-steps c =
    let s = c.args.self.now.fields in
    let h = c.in_err-field.ensures.steps in
    let none = rows_none (chunks_exact_size s) (chunks_exact_rest s) h.1.0 in
    rw (c.from_residual.ensures, h.1.1) (none, none)

first : (c : goal.After-new) → rows_left c.args.self.now ≡ shown c.new.result ∷ rows_in (chunks_exact_size c.next.new.self) (length (chunks_exact_rest c.next.new.self) / chunks_exact_size c.next.new.self) (chunks_exact_rest c.next.new.self)
first c =
    let s = c.args.self.now.fields in
    let others = chunks_exact_rest c.next.new.self in
    let field = c.in_ok-field.field.now in
    let h = c.in_ok-field.ensures.steps in
    rows_some (chunks_exact_size s) (chunks_exact_rest s) field others (omega (arith, c.args.self.now.long)) h.1.0 h.1.1 ∙
    ap₂ (λ r n. r ∷ rows_in n (length others / n) others) (ap row_in (sym (take_rest field 3)) ∙ sym c.new.ensures) (sym h.0)

pub returns-clause-steps : goal.returns-clause-steps
returns-clause-steps c = first c

pub returns-clause-goes : goal.returns-clause-goes
returns-clause-goes c = let shorter = ap length (first c) in search rules
