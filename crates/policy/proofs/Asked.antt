-- The calls on any policy, by the tests before them.
use Rattle.std.proofs.Common.{◌≡◌, ℕ, ◌+◌, ◌*◌, ◌≤◌, Bool, true, false, cond, ◌||◌, eqb, leb, List, length, take, ℤ, Ok, Err, Option, sym, refl, ap, ◌∙◌, arith}
use Rattle.std.proofs.lemmas.Bool.{leb-true}
use Rattle.std.proofs.lemmas.Bool.Decides.{nat_tests}
use Rattle.std.proofs.lemmas.Result.{err_from_is_err_and}
use Rattle.std.specs.Result.{IsErrAnd}
use Rattle.model.specs.declared.Moment.{Moment}
use Rattle.model.specs.declared.Refusal.{Refusal}
use Rattle.model.specs.declared.Refusal.TheVariants.{AreaTooShort, NoSuchEvent, BlockTooLong, TooManyCells}
use Rattle.model.specs.declared.Test.{Test}
use Rattle.model.specs.declared.Event.{Event}
use Rattle.model.specs.Policy.{Automaton, Blocks, Showing}
use Rattle.model.specs.Fields.{Read, need, ◌>>=◌, ◌>>◌}
use Rattle.model.specs.Areas.{over_area, area_after}
use Rattle.model.specs.Calls.{told_width, told_length, known_call, watched_answer, starts_answer, starts_row, over_row, row_by, whole_row}
use Rattle.model.specs.Calls.{verdict_of, row_behind, step_answer, row_after, block_bytes, block_answer, block_area}
use Rattle.policy.specs.Calls.{may_start, may_step, may_write}

-- a refusal is no answer
pub clash : {X Y : Type 0} {x : Refusal} {a : X} → Err x ≡ Ok a → Y
clash h = absurd (let z : ◌≡◌ {A = ℕ} 0 1 = cc in omega arith)

-- the same refusal of another call
pub same : {X Y : Type 0} {x y : Refusal} → ◌≡◌ {A = Read X} (Err x) (Err y) → ◌≡◌ {A = Read Y} (Err x) (Err y)
same {x = x} {y = y} h = let z : x ≡ y = cc in ap Err z

-- what `?` passes on is the refusal that it met
pub passed : {X : Type 0} {x : Refusal} (r : Read X) → IsErrAnd r (λ y. y ≡ x) → r ≡ Err x
passed r h = let p = err_from_is_err_and r h in p.1 ∙ ap Err p.2

-- ---- whether a call is watched

module _ (A : Automaton) (k : ℕ) where
  pub watched_refused : (x : Refusal) → Err x ≡ known_call k → Err x ≡ watched_answer A k
  unfolding ◌>>=◌
  watched_refused x h = go (leb k 63) h
    where
      go : (b : Bool) → Err x ≡ need b NoSuchEvent → Err x ≡ (need b NoSuchEvent >> Ok (A.watched k))
      go true h = clash h
      go false h = same h

  pub watched_known : Ok tt ≡ known_call k → Ok (A.watched k) ≡ watched_answer A k
  unfolding ◌>>=◌
  watched_known h = go (leb k 63) h
    where
      go : (b : Bool) → Ok tt ≡ need b NoSuchEvent → Ok (A.watched k) ≡ (need b NoSuchEvent >> Ok (A.watched k))
      go true h = refl
      go false h = clash (sym h)

-- ---- the start values

-- the tests for a row, by their outcomes
abbrev row_tests : Bool → Bool → Read (Unit {0})
row_tests n l = cond n (cond l (Ok tt) (Err AreaTooShort)) (Err TooManyCells)

-- the width that is told passes the same tests
row_tested : (A : Automaton) (room : ℕ) → may_start (told_width A) room ≡ row_tests (leb A.width 32) (leb A.width room)
row_tested A room = grind (arith, nat_tests)

-- a row that a policy's cells have room in
pub record Roomy (A : Automaton) (row : List ℤ) : Type 0 where
  pub told : told_width A ≡ A.width
  pub narrow : A.width ≤ 32
  pub room : A.width ≤ length row

roomy : (A : Automaton) (row : List ℤ) → leb A.width 32 ≡ true → leb A.width (length row) ≡ true → Roomy A row
roomy A row n l = let a = leb-true _ _ n in record { told = omega arith; narrow = a; room = leb-true _ _ l }

module _ (A : Automaton) (row : List ℤ) where
  pub starts_refused : (x : Refusal) → Err x ≡ may_start (told_width A) (length row) → (Err x ≡ starts_answer A row) × (row ≡ starts_row A row)
  unfolding ◌>>=◌
  starts_refused x h = go (leb A.width 32) (leb A.width (length row)) (h ∙ row_tested A (length row))
    where
      go : (n l : Bool) → Err x ≡ row_tests n l → (Err x ≡ (need n TooManyCells >> need l AreaTooShort)) ×
          (row ≡ row_by row (need n TooManyCells >> need l AreaTooShort >> Ok (over_row A A.starts row)))
      go true true h = clash h
      go true false h = (h, refl)
      go false l h = (h, refl)

  pub starts_allowed : Ok tt ≡ may_start (told_width A) (length row) → Roomy A row × (Ok tt ≡ starts_answer A row) × (over_row A A.starts row ≡ starts_row A row)
  unfolding ◌>>=◌
  starts_allowed h = go (leb A.width 32) (leb A.width (length row)) (roomy A row) (h ∙ row_tested A (length row))
    where
      go : (n l : Bool) → (n ≡ true → l ≡ true → Roomy A row) → Ok tt ≡ row_tests n l → Roomy A row × (Ok tt ≡ (need n TooManyCells >> need l AreaTooShort)) ×
          (over_row A A.starts row ≡ row_by row (need n TooManyCells >> need l AreaTooShort >> Ok (over_row A A.starts row)))
      go true true r h = (r refl refl, refl, refl)
      go true false r h = clash (sym h)
      go false l r h = clash (sym h)

-- ---- steps

-- what is known of a step that the tests let through
pub record Allowed (A : Automaton) (e : Event) (row : List ℤ) : Type 0 where
  pub known : e.call ≤ 63
  pub roomy : Roomy A row
  pub answer : (o : Option (List ℤ)) → A.step e (take A.width row) ≡ o → Ok (verdict_of o) ≡ step_answer A e row
  pub after : (o : Option (List ℤ)) → A.step e (take A.width row) ≡ o → row_behind row (whole_row A row o) ≡ row_after A e row

verdict_whole : (A : Automaton) (row : List ℤ) (o : Option (List ℤ)) → verdict_of (whole_row A row o) ≡ verdict_of o
verdict_whole A row Option.None = refl
verdict_whole A row (Option.Some c) = refl

module _ (A : Automaton) (e : Event) (row : List ℤ) where
  -- the step of a row, by the outcomes of the tests
  abbrev stepped : Bool → Bool → Bool → Option (List ℤ) → Read (Option (List ℤ))
  stepped k n l o = need k NoSuchEvent >> (need n TooManyCells >> need l AreaTooShort >> Ok (whole_row A row o))

  step_tested : may_step e.call (told_width A) (length row) ≡ cond (leb e.call 63) (row_tests (leb A.width 32) (leb A.width (length row))) (Err NoSuchEvent)
  step_tested = ap (λ x. cond (leb e.call 63) x (Err NoSuchEvent)) (row_tested A (length row))

  pub step_refused : (x : Refusal) → Err x ≡ may_step e.call (told_width A) (length row) → (Err x ≡ step_answer A e row) × (row ≡ row_after A e row)
  unfolding ◌>>=◌
  step_refused x h = go (leb e.call 63) (leb A.width 32) (leb A.width (length row)) (A.step e (take A.width row)) (h ∙ step_tested)
    where
      go : (k n l : Bool) (o : Option (List ℤ)) → Err x ≡ cond k (row_tests n l) (Err NoSuchEvent) →
          (Err x ≡ (stepped k n l o >>= (λ o. Ok (verdict_of o)))) × (row ≡ row_by row (stepped k n l o >>= (λ o. Ok (row_behind row o))))
      go true true true o h = clash h
      go true true false o h = (same h, refl)
      go true false l o h = (same h, refl)
      go false n l o h = (same h, refl)

  pub step_allowed : Ok tt ≡ may_step e.call (told_width A) (length row) → Allowed A e row
  unfolding ◌>>=◌
  step_allowed h = go (leb e.call 63) (leb A.width 32) (leb A.width (length row)) refl refl refl (h ∙ step_tested)
    where
      go : (k n l : Bool) → leb e.call 63 ≡ k → leb A.width 32 ≡ n → leb A.width (length row) ≡ l → Ok tt ≡ cond k (row_tests n l) (Err NoSuchEvent) → Allowed A e row
      go true true true a b d h = record {
        known = leb-true _ _ a;
        roomy = roomy A row b d;
        answer = λ o q. rw (a, b, d, q) (ap Ok (sym (verdict_whole A row o)));
        after = λ o q. rw (a, b, d, q);
      }
      go true true false a b d h = clash (sym h)
      go true false l a b d h = clash (sym h)
      go false n l a b d h = clash (sym h)

-- ---- blocks

-- what is known of a block that the tests let through
pub record Writable (A : Automaton) (B : Blocks) (k : ℕ) (t : Moment) (f : ℕ) (area : List ℕ) : Type 0 where
  pub known : k ≤ 63
  pub told : told_length B k t ≡ length (B k t f)
  pub wide : (A.width ≡ 0 → ⊥) → f + A.width ≤ 32
  pub short : length (B k t f) ≤ 1000
  pub room : 4 * length (B k t f) ≤ length area
  pub answer : Ok (length (B k t f)) ≡ block_answer A B k t f area
  pub after : over_area (block_bytes (B k t f)) area ≡ block_area A B k t f area

module _ (A : Automaton) (B : Blocks) (S : Showing A B) (k : ℕ) (t : Moment) (f : ℕ) (area : List ℕ) where
  -- the tests, by their outcomes
  abbrev block_tests : Bool → Bool → Bool → Bool → Read (Unit {0})
  block_tests k w n l = cond k (cond w (cond n (cond l (Ok tt) (Err AreaTooShort)) (Err BlockTooLong)) (Err TooManyCells)) (Err NoSuchEvent)

  -- the asked block, by the outcomes of the tests
  abbrev asked : Bool → Bool → Bool → Bool → List Test → Read (List Test)
  asked k w n l b = need k NoSuchEvent >> (need w TooManyCells >> (need n BlockTooLong >> (need l AreaTooShort >> Ok b)))

  block_tested : may_write k (told_width A) f (told_length B k t) (length area) ≡
      block_tests (leb k 63) (eqb A.width 0 || leb (f + A.width) 32) (leb (length (B k t f)) 1000) (leb (4 * length (B k t f)) (length area))
  block_tested = let p = S.placed k t f 0 in grind (arith, nat_tests)

  pub block_refused : (x : Refusal) → Err x ≡ may_write k (told_width A) f (told_length B k t) (length area) →
      (Err x ≡ block_answer A B k t f area) × (area ≡ block_area A B k t f area)
  unfolding ◌>>=◌
  block_refused x h = go (leb k 63) (eqb A.width 0 || leb (f + A.width) 32) (leb (length (B k t f)) 1000) (leb (4 * length (B k t f)) (length area)) (h ∙ block_tested)
    where
      go : (j w n l : Bool) → Err x ≡ block_tests j w n l →
          (Err x ≡ (asked j w n l (B k t f) >>= (λ b. Ok (length b)))) × (area ≡ area_after area (asked j w n l (B k t f) >>= (λ b. Ok (block_bytes b))))
      go true true true true h = clash h
      go true true true false h = (same h, refl)
      go true true false l h = (same h, refl)
      go true false n l h = (same h, refl)
      go false w n l h = (same h, refl)

  pub block_allowed : Ok tt ≡ may_write k (told_width A) f (told_length B k t) (length area) → Writable A B k t f area
  unfolding ◌>>=◌
  block_allowed h =
      go (leb k 63) (eqb A.width 0 || leb (f + A.width) 32) (leb (length (B k t f)) 1000) (leb (4 * length (B k t f)) (length area)) refl refl refl refl (h ∙ block_tested)
    where
      go : (j w n l : Bool) → leb k 63 ≡ j → (eqb A.width 0 || leb (f + A.width) 32) ≡ w → leb (length (B k t f)) 1000 ≡ n →
          leb (4 * length (B k t f)) (length area) ≡ l → Ok tt ≡ block_tests j w n l → Writable A B k t f area
      go true true true true a b d e h =
          let short = leb-true _ _ d in
          let p = S.placed k t f 0 in
          record {
            known = leb-true _ _ a;
            told = omega arith;
            wide = λ z. grind (arith, nat_tests);
            short = short;
            room = leb-true _ _ e;
            answer = rw (a, b, d, e);
            after = rw (a, b, d, e);
          }
      go true true true false a b d e h = clash (sym h)
      go true true false l a b d e h = clash (sym h)
      go true false n l a b d e h = clash (sym h)
      go false w n l a b d e h = clash (sym h)
