use Rattle.std.proofs.Common.{◌≡◌, ℕ, List, get_or, take, set, ℤ, pos, Some, None, Option, sym, ap, ◌∙◌, arith, w32, SFits, to_z, of_z, rules}
use Rattle.std.proofs.lemmas.Int.{to_z-of_z}
use Rattle.model.specs.Tables.{table_in, table_automaton, by_row, from}
use Rattle.tables.proofs.TableRows.{first_set, first_same, first_getD}
use Rattle.policy.proofs.Asked.{passed, step_refused, step_allowed}
use Rattle.tables.proofs.table.TablePolicy.step.Goals as goal

-- the step by the row's next states
by_next : (row : List ℤ) (o : Option (List ℕ)) (ns : List ℕ) (d : Option (List ℤ)) → Some ns ≡ o → SFits w32 (get_or row 0 (pos 0)) →
    d ≡ from (take 1 row) ns (to_z w32 (of_z w32 (get_or row 0 (pos 0)))) → by_row (take 1 row) o ≡ d
by_next row o ns d e f s =
    ap (by_row (take 1 row)) (sym e) ∙ ap (from (take 1 row) ns) (first_getD row ∙ sym (to_z-of_z w32 (get_or row 0 (pos 0)) f)) ∙ sym s

pub returns-in_err-may_step : goal.returns-in_err-may_step
returns-in_err-may_step c =
    let A = table_automaton (table_in c.args.self.now.file.now) in
    let h = step_refused A c.args.event.now c.args.row.now c.in_err-may_step.field-0.0 c.in_err-may_step.ensures in
    record { answer = passed _ c.from_residual.ensures.1 ∙ h.0; row = h.1 }

pub returns-in_default : goal.returns-in_default
returns-in_default c =
    let A = table_automaton (table_in c.args.self.now.file.now) in
    let row = c.args.row.now in
    let h = step_allowed A c.args.event.now row c.in_ok-may_step.ensures in
    let q = ap (by_row (take 1 row)) (sym c.in_default.ensures) in
    record { answer = h.answer (Some (take 1 row)) q; row = sym (first_same row) ∙ h.after (Some (take 1 row)) q }

pub returns-in_default-next : goal.returns-in_default-next
returns-in_default-next c =
    let A = table_automaton (table_in c.args.self.now.file.now) in
    let row = c.args.row.now in
    let h = step_allowed A c.args.event.now row c.in_ok-may_step.ensures in
    let f : SFits w32 (get_or row 0 (pos 0)) = search rules in
    let q = by_next row _ _ None c.in-Some.ensures f (c.in_default-next.ensures (take 1 row)) in
    record { answer = h.answer None q; row = h.after None q }

pub returns : goal.returns
returns c =
    let A = table_automaton (table_in c.args.self.now.file.now) in
    let row = c.args.row.now in
    let h = step_allowed A c.args.event.now row c.in_ok-may_step.ensures in
    let f : SFits w32 (get_or row 0 (pos 0)) = search rules in
    let g : SFits w32 c.from.result = search rules in
    let d = set (take 1 row) 0 (pos c.in-Some-next.next) in
    let q = by_next row _ _ (Some d) c.in-Some.ensures f (c.in-Some-next.ensures (take 1 row)) in
    let v = to_z-of_z w32 c.from.result g ∙ c.from.ensures in
    record { answer = h.answer (Some d) q; row = ap (set row 0) v ∙ first_set row _ (omega (arith, h.roomy.room)) ∙ h.after (Some d) q }
