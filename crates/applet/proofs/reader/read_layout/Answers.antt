use Rattle.std.proofs.Common.{◌≡◌, ℕ, ◌+◌, ◌*◌, true, cond, leb, List, length, sym, ap, ◌∙◌, ap₂, arith}
use Rattle.std.proofs.lemmas.Bool.{le-leb}
use Rattle.model.specs.declared.Refusal.TheVariants.{BadField}
use Rattle.model.specs.Fields.{refuse}
use Rattle.applet.specs.Applets.{found_in}
use Rattle.applet.proofs.Loops.{failed}
use Rattle.applet.specs.Stages.{head_of, entries_of, cells_of, due_at, listed, places_from, places_in, staged, from_head, from_entries, from_cells, from_places, from_codes, codes_judged}
use Rattle.applet.proofs.reader.read_layout.Goals as goal
use Rattle.applet.proofs.reader.read_layout.Goals.{After-read_head, After-read_entries, After-read_cells, After-read_places, After-judge_codes}

-- the reading comes to the head
module _ (c : After-read_head) where
  by_head : staged c.args.file.now ≡ from_head c.args.file.now c.read_head.result
  by_head =
      let l : leb (length c.args.file.now) 65535 ≡ true = le-leb _ _ c.if-file-gt65535.false in
      ap (λ b. cond b (from_head c.args.file.now (head_of 0 (due_at 1 c.args.file.now 0))) (refuse (BadField 0))) l ∙
      ap (from_head c.args.file.now)
      (sym (c.read_head.ensures.value ∙ ap₂ (λ (g : List ℕ) (p : ℕ). head_of p (due_at 1 g p)) c.new-fields.ensures.holder c.new-fields.ensures.at))

-- then to the entries
module _ (c : After-read_entries) where
  holder_1 : c.read_head.new.fields.holder.now ≡ c.args.file.now
  holder_1 = c.read_head.ensures.holder ∙ c.new-fields.ensures.holder

  at_1 : c.read_head.new.fields.at ≡ 5
  at_1 = let e = c.in_ok-methods.ensures.at in let z = c.new-fields.ensures.at in omega arith

  by_entries : staged c.args.file.now ≡ from_entries c.args.file.now c.in_ok-methods.methods c.read_entries.result
  by_entries =
      by_head (goal.at.After-read_entries c).After-read_head ∙ ap (from_head c.args.file.now) c.in_ok-methods.was ∙
      ap (from_entries c.args.file.now c.in_ok-methods.methods)
      (sym (c.read_entries.ensures.value ∙ ap₂ (λ (g : List ℕ) (p : ℕ). entries_of c.in_ok-methods.methods p (due_at 2 g p)) holder_1 at_1))

-- then to the cells
module _ (c : After-read_cells) where
  holder_2 : c.read_entries.new.fields.holder.now ≡ c.args.file.now
  holder_2 = c.read_entries.ensures.holder ∙ holder_1 (goal.at.After-read_cells c).After-read_entries

  at_2 : c.read_entries.new.fields.at ≡ 8 + c.in_ok-threads.threads
  at_2 = let e = c.in_ok-threads.ensures.at in let z = at_1 (goal.at.After-read_cells c).After-read_entries in omega arith

  by_cells : staged c.args.file.now ≡ from_cells c.args.file.now c.in_ok-methods.methods c.in_ok-threads.threads c.read_cells.result
  by_cells =
      by_entries (goal.at.After-read_cells c).After-read_entries ∙ ap (from_entries c.args.file.now c.in_ok-methods.methods) c.in_ok-threads.was ∙
      ap (from_cells c.args.file.now c.in_ok-methods.methods c.in_ok-threads.threads)
      (sym (c.read_cells.ensures.value ∙ ap₂ (λ (g : List ℕ) (p : ℕ). cells_of p (due_at 3 g p)) holder_2 at_2))

-- then to the places of the methods
module _ (c : After-read_places) where
  holder_3 : c.read_cells.new.fields.holder.now ≡ c.args.file.now
  holder_3 = c.read_cells.ensures.holder ∙ holder_2 (goal.at.After-read_places c).After-read_cells

  at_3 : c.read_cells.new.fields.at ≡ 11 + c.in_ok-threads.threads + 4 * c.in_ok-cells.cells
  at_3 = let e = c.in_ok-cells.ensures.at in let z = at_2 (goal.at.After-read_places c).After-read_cells in omega arith

  by_places : staged c.args.file.now ≡
      from_places c.args.file.now c.in_ok-methods.methods c.in_ok-threads.threads c.in_ok-cells.cells
      (places_in c.read_places.result)
  by_places =
      by_cells (goal.at.After-read_places c).After-read_cells ∙
      ap (from_cells c.args.file.now c.in_ok-methods.methods c.in_ok-threads.threads) c.in_ok-cells.was ∙
      ap (from_places c.args.file.now c.in_ok-methods.methods c.in_ok-threads.threads c.in_ok-cells.cells)
      (sym (c.read_places.ensures.value ∙ ap₂ (λ (g : List ℕ) (p : ℕ). places_from c.in_ok-methods.methods g p) holder_3 at_3))

-- then to the code
module _ (c : After-judge_codes) where
  by_codes : staged c.args.file.now ≡
      from_codes c.in_ok-threads.threads c.in_ok-cells.cells (listed c.in_ok-places.places) c.judge_codes.result
  by_codes =
      by_places (goal.at.After-judge_codes c).After-read_places ∙
      ap (λ r. from_places c.args.file.now c.in_ok-methods.methods c.in_ok-threads.threads c.in_ok-cells.cells (places_in r))
      c.in_ok-places.was ∙
      ap (from_codes c.in_ok-threads.threads c.in_ok-cells.cells (listed c.in_ok-places.places))
      (sym (c.judge_codes.ensures ∙ ap (codes_judged c.in_ok-methods.methods c.args.file.now) c.as_slice.ensures))

pub returns-in_err-methods : goal.returns-in_err-methods
returns-in_err-methods c =
    ap found_in (failed c.from_residual.result _ c.from_residual.ensures.1) ∙ (sym (by_head (goal.at.returns-in_err-methods c).After-read_head ∙ ap (from_head c.args.file.now) c.in_err-methods.was))

pub returns-in_err-threads : goal.returns-in_err-threads
returns-in_err-threads c =
    ap found_in (failed c.from_residual-in_err-threads.result _ c.from_residual-in_err-threads.ensures.1) ∙ (sym (by_entries (goal.at.returns-in_err-threads c).After-read_entries ∙ ap (from_entries c.args.file.now c.in_ok-methods.methods) c.in_err-threads.was))

pub returns-in_err-cells : goal.returns-in_err-cells
returns-in_err-cells c =
    ap found_in (failed c.from_residual-in_err-cells.result _ c.from_residual-in_err-cells.ensures.1) ∙ (sym (by_cells (goal.at.returns-in_err-cells c).After-read_cells ∙
    ap (from_cells c.args.file.now c.in_ok-methods.methods c.in_ok-threads.threads) c.in_err-cells.was))

pub returns-in_err-places : goal.returns-in_err-places
returns-in_err-places c =
    ap found_in (failed c.from_residual-in_err-places.result _ c.from_residual-in_err-places.ensures.1) ∙ (sym (by_places (goal.at.returns-in_err-places c).After-read_places ∙
    ap (λ r. from_places c.args.file.now c.in_ok-methods.methods c.in_ok-threads.threads c.in_ok-cells.cells (places_in r))
    c.in_err-places.was))

pub returns-in_err-judge_codes : goal.returns-in_err-judge_codes
returns-in_err-judge_codes c =
    ap found_in (failed c.from_residual-in_err-judge_codes.result _ c.from_residual-in_err-judge_codes.ensures.1) ∙ (sym (by_codes (goal.at.returns-in_err-judge_codes c).After-judge_codes ∙
    ap (from_codes c.in_ok-threads.threads c.in_ok-cells.cells (listed c.in_ok-places.places))
    c.in_err-judge_codes.was))

pub returns : goal.returns
returns c =
    sym (by_codes (goal.at.returns c).After-judge_codes ∙
    ap (from_codes c.in_ok-threads.threads c.in_ok-cells.cells (listed c.in_ok-places.places))
    c.in_ok-judge_codes.was)
