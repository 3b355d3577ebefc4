-- A caller's row under a policy's steps.
use Rattle.std.proofs.Common.{◌≡◌, ◌≤◌, Bool, true, false, leb, List, length, take, drop, ℤ, Some, None, Ok, Option, refl, ◌∙◌, arith, length-append, length-drop, drop_at}
use Rattle.std.proofs.lemmas.List.{length-take-le}
use Rattle.std.proofs.lemmas.Bool.{leb-true}
use Rattle.model.specs.declared.Refusal.TheVariants.{AreaTooShort, NoSuchEvent, TooManyCells}
use Rattle.model.specs.declared.Verdict.{Verdict}
use Rattle.model.specs.declared.Event.{Event}
use Rattle.model.specs.Policy.{Automaton, Blocks, Showing}
use Rattle.model.specs.Fields.{Read, need, ◌>>=◌, ◌>>◌}
use Rattle.model.specs.Calls.{RowKept, whole_row, row_by, row_behind, verdict_of}

module _ (A : Automaton) (row : List ℤ) where
  -- what a step of the row comes to, by the three tests before it
  abbrev Stepped : Bool → Bool → Bool → Option (List ℤ) → Read (Option (List ℤ))
  Stepped k n l q = need k NoSuchEvent >> (need n TooManyCells >> need l AreaTooShort >> Ok (whole_row A row q))

  -- the row after it
  abbrev Row : Bool → Bool → Bool → Option (List ℤ) → List ℤ
  Row k n l q = row_by row (Stepped k n l q >>= (λ o. Ok (row_behind row o)))

  -- a step gives cells of the policy's width where the row has room
  abbrev Wide : Bool → Option (List ℤ) → Type 0
  Wide l q = l ≡ true → (A.width ≤ length row) × ((c : List ℤ) → q ≡ Some c → length c ≡ A.width)

  long_by : (k n l : Bool) (q : Option (List ℤ)) → Wide l q → length (Row k n l q) ≡ length row
  unfolding ◌>>=◌
  long_by false n l q h = refl
  long_by true false l q h = refl
  long_by true true false q h = refl
  long_by true true true None h = refl
  long_by true true true (Some c) h =
      let g = h refl in
      let e = g.1 c refl in
      length-append c (drop A.width row) ∙ omega (arith, length-drop A.width row)

  past_by : (k n l : Bool) (q : Option (List ℤ)) → Wide l q → drop A.width (Row k n l q) ≡ drop A.width row
  unfolding ◌>>=◌
  past_by false n l q h = refl
  past_by true false l q h = refl
  past_by true true false q h = refl
  past_by true true true None h = refl
  past_by true true true (Some c) h = drop_at c (drop A.width row) A.width ((h refl).1 c refl)

  stays_by : (k n l : Bool) (q : Option (List ℤ)) → ((Stepped k n l q >>= (λ o. Ok (verdict_of o))) ≡ Ok Verdict.Taken → ⊥) → Row k n l q ≡ row
  unfolding ◌>>=◌
  stays_by false n l q h = refl
  stays_by true false l q h = refl
  stays_by true true false q h = refl
  stays_by true true true None h = refl
  stays_by true true true (Some c) h = absurd (h refl)

pub row_kept : (A : Automaton) (B : Blocks) → Showing A B → RowKept A
row_kept A B S = record {
  long = λ e row. long_by A row (leb e.call 63) (leb A.width 32) (leb A.width (length row)) (A.step e (take A.width row)) (wide e row);
  past = λ e row. past_by A row (leb e.call 63) (leb A.width 32) (leb A.width (length row)) (A.step e (take A.width row)) (wide e row);
  stays = λ e row. stays_by A row (leb e.call 63) (leb A.width 32) (leb A.width (length row)) (A.step e (take A.width row));
}
  where
    wide : (e : Event) (row : List ℤ) → Wide A row (leb A.width (length row)) (A.step e (take A.width row))
    wide e row l = let w = leb-true _ _ l in (w, λ c q. S.keeps e (take A.width row) c (length-take-le A.width row w) q)
