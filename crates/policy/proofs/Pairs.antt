-- The calls on a pair, by those on its parts.
use Rattle.std.proofs.Common.{◌≡◌, ℕ, ◌+◌, ◌-◌, ◌*◌, ◌≤◌, Bool, true, false, ◌||◌, leb, ◌⊎◌, List, ◌++◌, length, take, drop, ℤ, Some, None, Ok, Err, Option, sym, refl, ap, ◌∙◌, subst, ap₂, inl, inr, append_assoc, arith, length-append, length-drop, take-append-drop, length-take}
use borrow.Rule.Slice.PartMut.{put_mid, mid_of, post_of}
use Rattle.std.proofs.lemmas.List.{append-nil, take_all, drop_all, take_at, drop_at, drop-drop, drop-take, take-take, take_rest}
use Rattle.std.proofs.lemmas.Bool.{false≢true, true≢false, cases_eq}
use Rattle.std.proofs.lemmas.Bool.Decides.{nat_tests}
use Rattle.model.specs.declared.Moment.{Moment}
use Rattle.model.specs.declared.Refusal.{Refusal}
use Rattle.model.specs.declared.Refusal.TheVariants.{NoSuchEvent}
use Rattle.model.specs.declared.Verdict.{Verdict}
use Rattle.model.specs.declared.Event.{Event}
use Rattle.model.specs.Policy.{Automaton, Blocks, Showing}
use Rattle.model.specs.Fields.{need, ◌>>=◌, ◌>>◌}
use Rattle.model.specs.Calls.{told_width, told_length, watched_answer, starts_row, over_row, whole_row, verdict_of, row_behind, step_answer, row_after}
use Rattle.model.specs.Calls.{block_bytes, block_area}
use Rattle.model.specs.Kinds.{joined_cells, pair_automaton, pair_block}
use Rattle.policy.specs.Calls.{may_start, may_step, may_write, is_taken}
use Rattle.policy.proofs.Asked.{clash, starts_allowed, step_allowed, Writable, block_allowed}
use Rattle.policy.proofs.Writes.{bytes_append, bytes_length}

-- ---- which calls are watched

module _ (A C : Automaton) (k : ℕ) where
  pub watched_first : (x : Refusal) → Err x ≡ watched_answer A k → Err x ≡ watched_answer (pair_automaton A C) k
  unfolding ◌>>=◌
  watched_first x h = go (leb k 63) h
    where
      go : (b : Bool) → Err x ≡ (need b NoSuchEvent >> Ok (A.watched k)) → Err x ≡ (need b NoSuchEvent >> Ok (A.watched k || C.watched k))
      go true h = clash h
      go false h = h

  pub watched_second : (x : Refusal) → Err x ≡ watched_answer C k → Err x ≡ watched_answer (pair_automaton A C) k
  unfolding ◌>>=◌
  watched_second x h = go (leb k 63) h
    where
      go : (b : Bool) → Err x ≡ (need b NoSuchEvent >> Ok (C.watched k)) → Err x ≡ (need b NoSuchEvent >> Ok (A.watched k || C.watched k))
      go true h = clash h
      go false h = h

  pub watched_both : (a b : Bool) → Ok a ≡ watched_answer A k → Ok b ≡ watched_answer C k → Ok (a || b) ≡ watched_answer (pair_automaton A C) k
  unfolding ◌>>=◌
  watched_both a b h g = go (leb k 63) h g
    where
      go : (t : Bool) → Ok a ≡ (need t NoSuchEvent >> Ok (A.watched k)) → Ok b ≡ (need t NoSuchEvent >> Ok (C.watched k)) →
          Ok (a || b) ≡ (need t NoSuchEvent >> Ok (A.watched k || C.watched k))
      go true h g = let x : a ≡ A.watched k = cc in let y : b ≡ C.watched k = cc in ap Ok (ap₂ ◌||◌ x y)
      go false h g = clash (sym h)

-- or, by its first part
pub or_then : (a b : Bool) → a ≡ true → a ≡ (a || b)
or_then true b h = refl
or_then false b h = absurd (false≢true h)

pub or_else : (a b : Bool) → a ≡ false → b ≡ (a || b)
or_else true b h = absurd (true≢false h)
or_else false b h = refl

-- ---- parts that have room

starts_open : (A : Automaton) (row : List ℤ) → A.width ≤ 32 → A.width ≤ length row → Ok tt ≡ may_start (told_width A) (length row)
starts_open A row n l = grind (arith, nat_tests)

step_open : (A : Automaton) (e : Event) (row : List ℤ) → e.call ≤ 63 → A.width ≤ 32 → A.width ≤ length row → Ok tt ≡ may_step e.call (told_width A) (length row)
step_open A e row k n l = grind (arith, nat_tests)

block_open : (A : Automaton) (B : Blocks) → Showing A B → (k : ℕ) (t : Moment) (f : ℕ) (area : List ℕ) → k ≤ 63 → ((A.width ≡ 0 → ⊥) → f + A.width ≤ 32) →
    length (B k t f) ≤ 1000 → 4 * length (B k t f) ≤ length area → Ok tt ≡ may_write k (told_width A) f (told_length B k t) (length area)
block_open A B S k t f area h w n l = go (cases_eq A.width 0)
  where
    go : (A.width ≡ 0) ⊎ (A.width ≡ 0 → ⊥) → Ok tt ≡ may_write k (told_width A) f (told_length B k t) (length area)
    go (inl z) = let p = S.placed k t f 0 in grind (arith, nat_tests)
    go (inr z) = let p = S.placed k t f 0 in let y = w z in grind (arith, nat_tests)

-- a step of just the policy's cells
module _ (A : Automaton) (e : Event) (c : List ℤ) (k : e.call ≤ 63) (n : A.width ≤ 32) (l : length c ≡ A.width) where
  own : take A.width c ≡ c
  own = take_all A.width c (omega arith)

  whole : (o : Option (List ℤ)) → row_behind c (whole_row A c o) ≡ row_behind c o
  whole None = refl
  whole (Some d) = ap (λ z. d ++ z) (drop_all A.width c (omega arith)) ∙ append-nil d

  pub exact_answer : step_answer A e c ≡ Ok (verdict_of (A.step e c))
  exact_answer = sym ((step_allowed A e c (step_open A e c k n (omega arith))).answer (A.step e c) (ap (A.step e) own))

  pub exact_after : row_after A e c ≡ row_behind c (A.step e c)
  exact_after = sym ((step_allowed A e c (step_open A e c k n (omega arith))).after (A.step e c) (ap (A.step e) own)) ∙ whole (A.step e c)

-- ---- the start values

-- what was written behind a place
pub put_rest : {X : Type 0} (xs ys : List X) (n : ℕ) → n ≤ length xs → put_mid n (length xs - n) xs ys ≡ take n xs ++ ys
put_rest xs ys n h = ap (λ z. take n xs ++ z) (ap (λ z. ys ++ z) (drop_all (length xs - n) (drop n xs) (omega (arith, length-drop n xs))) ∙ append-nil ys)

module _ (A C : Automaton) (long : length A.starts ≡ A.width) (row : List ℤ) (n : A.width + C.width ≤ 32) (l : A.width + C.width ≤ length row) where
  pub pair_starts : (row₁ part : List ℤ) (a : ℕ) → a ≡ A.width → row₁ ≡ starts_row A row → part ≡ starts_row C (mid_of a (length row₁ - a) row₁) →
      put_mid a (length row₁ - a) row₁ part ≡ over_row (pair_automaton A C) (A.starts ++ C.starts) row
  pair_starts row₁ part a ha e₁ e₂ =
      let w = A.width in
      let x : row₁ ≡ A.starts ++ drop w row = e₁ ∙ sym (starts_allowed A row (starts_open A row (omega arith) (omega arith))).2 in
      let lx : length row₁ ≡ length row = ap length x ∙ length-append A.starts (drop w row) ∙ omega (arith, length-drop w row) in
      let d : drop a row₁ ≡ drop w row = ap₂ drop ha x ∙ drop_at A.starts (drop w row) w long in
      let t : take a row₁ ≡ A.starts = ap₂ take ha x ∙ take_at A.starts (drop w row) w long in
      let m : mid_of a (length row₁ - a) row₁ ≡ drop w row = take_rest row₁ a ∙ d in
      let ld = length-drop w row in
      let y : part ≡ C.starts ++ drop C.width (drop w row) =
      e₂ ∙ ap (starts_row C) m ∙ sym (starts_allowed C (drop w row) (starts_open C (drop w row) (omega arith) (omega arith))).2 in
      put_rest row₁ part a (omega arith) ∙ ap₂ ◌++◌ t (y ∙ ap (λ z. C.starts ++ z) (drop-drop C.width w row)) ∙
      sym (append_assoc A.starts C.starts (drop (w + C.width) row))

-- ---- steps

-- the first refuses
pub refused_first : (s t : Option (List ℤ)) → is_taken (Ok (verdict_of s)) ≡ false → Verdict.Refused ≡ verdict_of (joined_cells s t)
refused_first None t h = refl
refused_first (Some c) t h = absurd (true≢false h)

-- the second refuses
pub refused_second : (s t : Option (List ℤ)) → is_taken (Ok (verdict_of t)) ≡ false → Verdict.Refused ≡ verdict_of (joined_cells s t)
refused_second None t h = refl
refused_second (Some c) None h = refl
refused_second (Some c) (Some d) h = absurd (true≢false h)

-- both take
pub taken_both : (s t : Option (List ℤ)) (x y x₀ y₀ : List ℤ) → is_taken (Ok (verdict_of s)) ≡ true → is_taken (Ok (verdict_of t)) ≡ true → x ≡ row_behind x₀ s → y ≡ row_behind y₀ t →
    (Verdict.Taken ≡ verdict_of (joined_cells s t)) × (Some (x ++ y) ≡ joined_cells s t)
taken_both None t x y x₀ y₀ h k p q = absurd (false≢true h)
taken_both (Some c) None x y x₀ y₀ h k p q = absurd (false≢true k)
taken_both (Some c) (Some d) x y x₀ y₀ h k p q = (refl, ap Some (ap₂ ◌++◌ p q))

-- what the second sees, and what the cells are behind both
behind : (row x : List ℤ) (a w : ℕ) → length x ≡ a → a ≤ w → mid_of a (w - a) (x ++ post_of 0 (a - 0) row) ≡ drop a (take w row)
behind row x a w e h =
    let i : a - 0 ≡ a = omega arith in
    let j : a + (w - a) ≡ w = omega arith in
    rw (i, drop_at x (drop a row) a e) (sym (subst (λ n. drop a (take n row) ≡ take (w - a) (drop a row)) j (drop-take a (w - a) row)))

pub after_both : (row x y : List ℤ) (a w : ℕ) → length x ≡ a → length y ≡ w - a → a ≤ w → take w (put_mid a (w - a) (x ++ post_of 0 (a - 0) row) y) ≡ x ++ y
after_both row x y a w e f h =
    let i : a - 0 ≡ a = omega arith in
    rw (i, take_at x (drop a row) a e, ← append_assoc x y (drop (w - a) (drop a (x ++ drop a row)))) (take_at (x ++ y) _ w (length-append x y ∙ omega arith))

-- what is behind the first's cells, and behind both's
behind_one : (row x : List ℤ) (a : ℕ) → length x ≡ a → drop a (x ++ post_of 0 (a - 0) row) ≡ drop a row
behind_one row x a e = let i : a - 0 ≡ a = omega arith in rw (i, drop_at x (drop a row) a e) refl

pub rest_two : (row x y : List ℤ) (a w : ℕ) → length x ≡ a → a ≤ w → drop a (put_mid a (w - a) (x ++ post_of 0 (a - 0) row) y) ≡ y ++ drop w row
rest_two row x y a w e h =
    let z = x ++ post_of 0 (a - 0) row in
    let i : a - 0 ≡ a = omega arith in
    let j : a + (w - a) ≡ w = omega arith in
    let t : take a z ≡ x = ap (λ n. take a (x ++ drop n row)) i ∙ take_at x (drop a row) a e in
    let d : drop (w - a) (drop a z) ≡ drop w row = ap (drop (w - a)) (behind_one row x a e) ∙ drop-drop (w - a) a row ∙ ap (λ n. drop n row) j in
    drop_at (take a z) (y ++ drop (w - a) (drop a z)) a (ap length t ∙ e) ∙ ap (λ u. y ++ u) d

pub behind_two : (row x y : List ℤ) (a w : ℕ) → length x ≡ a → length y ≡ w - a → a ≤ w → drop w (put_mid a (w - a) (x ++ post_of 0 (a - 0) row) y) ≡ drop w row
behind_two row x y a w e f h =
    let z = put_mid a (w - a) (x ++ post_of 0 (a - 0) row) y in
    let j : a + (w - a) ≡ w = omega arith in
    ap (λ n. drop n z) (sym j) ∙ sym (drop-drop (w - a) a z) ∙ ap (drop (w - a)) (rest_two row x y a w e h) ∙ drop_at y (drop w row) (w - a) f

-- a refusal of the second leaves what is behind the first's cells
pub same_rest : (row x y : List ℤ) (a w : ℕ) → length x ≡ a → a ≤ w → y ≡ drop a (take w row) → drop a (put_mid a (w - a) (x ++ post_of 0 (a - 0) row) y) ≡ drop a row
same_rest row x y a w e h q =
    let j : a + (w - a) ≡ w = omega arith in
    let d : drop a (take w row) ≡ take (w - a) (drop a row) = subst (λ n. drop a (take n row) ≡ take (w - a) (drop a row)) j (drop-take a (w - a) row) in
    let k : drop w row ≡ drop (w - a) (drop a row) = ap (λ n. drop n row) (sym j) ∙ sym (drop-drop (w - a) a row) in
    rest_two row x y a w e h ∙ ap₂ ◌++◌ (q ∙ d) k ∙ take-append-drop (w - a) (drop a row)

pub stays_none : (o : Option (List ℤ)) (y z : List ℤ) → is_taken (Ok (verdict_of o)) ≡ false → y ≡ row_behind z o → y ≡ z
stays_none None y z h e = e
stays_none (Some c) y z h e = absurd (true≢false h)

module _ (A C : Automaton) (e : Event) (row : List ℤ) (a w : ℕ) (hk : e.call ≤ 63) (ha : a ≡ A.width) (hw : w ≡ a + C.width) (few : w ≤ 32) (lr : w ≤ length row) where
  front : mid_of 0 (a - 0) row ≡ take A.width (take w row)
  front = ap (λ n. take n row) (omega arith) ∙ sym (take-take A.width w row (omega arith))

  long_one : length (take A.width (take w row)) ≡ A.width
  long_one = simp length-take (omega arith)

  long_two : length (drop A.width (take w row)) ≡ C.width
  long_two = simp (length-drop, length-take) (omega arith)

  pub first_answer : step_answer A e (mid_of 0 (a - 0) row) ≡ Ok (verdict_of (A.step e (take A.width (take w row))))
  first_answer = ap (step_answer A e) front ∙ exact_answer A e (take A.width (take w row)) hk (omega arith) long_one

  pub first_after : row_after A e (mid_of 0 (a - 0) row) ≡ row_behind (take A.width (take w row)) (A.step e (take A.width (take w row)))
  first_after = ap (row_after A e) front ∙ exact_after A e (take A.width (take w row)) hk (omega arith) long_one

  module _ (x : List ℤ) (lx : length x ≡ a) where
    back : mid_of a (w - a) (x ++ post_of 0 (a - 0) row) ≡ drop A.width (take w row)
    back = behind row x a w lx (omega arith) ∙ ap (λ n. drop n (take w row)) ha

    pub second_answer : step_answer C e (mid_of a (w - a) (x ++ post_of 0 (a - 0) row)) ≡ Ok (verdict_of (C.step e (drop A.width (take w row))))
    second_answer = ap (step_answer C e) back ∙ exact_answer C e (drop A.width (take w row)) hk (omega arith) long_two

    pub second_after : row_after C e (mid_of a (w - a) (x ++ post_of 0 (a - 0) row)) ≡
        row_behind (drop A.width (take w row)) (C.step e (drop A.width (take w row)))
    second_after = ap (row_after C e) back ∙ exact_after C e (drop A.width (take w row)) hk (omega arith) long_two

-- ---- blocks

module _ (A C : Automaton) (B D : Blocks) (SA : Showing A B) (SC : Showing C D) (k : ℕ) (t : Moment) (f : ℕ) where
  pub pair_length : length (pair_block A.width B D k t f) ≡ length (B k t 0) + length (D k t 0)
  pair_length = length-append (B k t f) (D k t (f + A.width)) ∙ omega (arith, SA.placed k t f 0, SC.placed k t (f + A.width) 0)

  pub pair_writes : (area area₁ new : List ℕ) (n : ℕ) → Writable (pair_automaton A C) (pair_block A.width B D) k t f area → n ≡ length (B k t 0) →
      area₁ ≡ block_area A B k t f area → new ≡ take (4 * n) area₁ ++ block_area C D k t (f + A.width) (drop (4 * n) area₁) →
      new ≡ block_area (pair_automaton A C) (pair_block A.width B D) k t f area
  pair_writes area area₁ new n w hn e₁ e₂ =
      let b = block_bytes (B k t f) in
      let d = block_bytes (D k t (f + A.width)) in
      let lp = pair_length in
      let pb = SA.placed k t f 0 in
      let pd = SC.placed k t (f + A.width) 0 in
      let short = w.short in
      let room = w.room in
      let lb = bytes_length (B k t f) in
      let ld = bytes_length (D k t (f + A.width)) in
      let la : length b ≡ 4 * n = omega arith in
      let x : area₁ ≡ b ++ drop (length b) area =
      e₁ ∙ sym (block_allowed A B SA k t f area (block_open A B SA k t f area w.known (λ z. let y = w.wide (λ i. z (omega arith)) in omega arith) (omega arith) (omega arith))).after in
      let ta : take (4 * n) area₁ ≡ b = ap (take (4 * n)) x ∙ take_at b (drop (length b) area) (4 * n) la in
      let da : drop (4 * n) area₁ ≡ drop (length b) area = ap (drop (4 * n)) x ∙ drop_at b (drop (length b) area) (4 * n) la in
      let ldr = length-drop (length b) area in
      let y : block_area C D k t (f + A.width) (drop (length b) area) ≡ d ++ drop (length d) (drop (length b) area) =
      sym (block_allowed C D SC k t (f + A.width) (drop (length b) area)
      (block_open C D SC k t (f + A.width) (drop (length b) area) w.known (λ z. let y = w.wide (λ i. z (omega arith)) in omega arith) (omega arith) (omega arith))).after in
      let j : length b + length d ≡ length (block_bytes (B k t f ++ D k t (f + A.width))) = sym (length-append b d) ∙ ap length (sym (bytes_append (B k t f) (D k t (f + A.width)))) in
      e₂ ∙ ap₂ ◌++◌ ta (ap (block_area C D k t (f + A.width)) da ∙ y ∙ ap (λ z. d ++ z) (drop-drop (length d) (length b) area ∙ ap (λ m. drop m area) j)) ∙
      sym (append_assoc b d _) ∙ ap (λ z. z ++ drop (length (block_bytes (B k t f ++ D k t (f + A.width)))) area) (sym (bytes_append (B k t f) (D k t (f + A.width)))) ∙ w.after

-- a refused event is not taken
pub differ : {X : Type 0} → Verdict.Refused ≡ Verdict.Taken → X
differ h = absurd (let z : ◌≡◌ {A = ℕ} 0 1 = cc in omega arith)

-- a step that is refused gives no cells
pub refused_is : (o : Option (List ℤ)) → Verdict.Refused ≡ verdict_of o → o ≡ None
refused_is None h = refl
refused_is (Some c) h = differ h
