-- Fields at places of a holder.
use Rattle.std.proofs.Common.{◌≡◌, ℕ, ◌+◌, ◌-◌, ◌<◌, ◌≤◌, Bool, true, false, cond, ◌&&◌, eqb, ltb, leb, ◌⊎◌, List, [], ◌∷◌, length, get_or, take, drop, Ok, Err, sym, refl, ap, ◌∙◌, ap₂, inl, inr, add-zero, arith}
use Rattle.std.proofs.lemmas.List.{drop-drop, length-drop, get_or-drop, length-take-le}
use Rattle.std.proofs.lemmas.Bool.{lt-leb, le-leb, lt-ltb, le-ltb, cond_both, eqb-true, cases_lt, cases_Bool, and_right, true≢false}
use Rattle.model.specs.Words.{word}
use Rattle.model.specs.declared.Refusal.TheVariants.{BadPolicyField}
use Rattle.model.specs.Fields.{Read, Part, refuse, a_tag, announced, contents_at, Standing, nothing, broken, standing, behind, expect, next}
use Rattle.model.specs.Fields as fields
use Rattle.policy.specs.Pieces.{Found, piece_of, due_piece}
use Rattle.tlv.specs.Parts.{Due, contents, missing, due}

-- what is expected, by what is due at a place
abbrev pub expected : List ℕ → ℕ → Due → Read Part
expected f p (contents c) = Ok (record { place = p; contents = c; rest = drop (p + (3 + length c)) f })
expected f p (missing q) = refuse (BadPolicyField p)

byte_at : (f r : List ℕ) (p j : ℕ) → drop p f ≡ r → get_or f (p + j) 0 ≡ get_or r j 0
byte_at f r p j at = sym (get_or-drop p f j 0) ∙ ap (λ x. get_or x j 0) at

module _ (f : List ℕ) (tag p : ℕ) (known : a_tag tag ≡ true) where
  short : (r : List ℕ) → drop p f ≡ r → length r < 3 → due tag p (standing f p) ≡ missing p
  short r at h =
      let l : length f - p ≡ length r = sym (length-drop p f) ∙ ap length at in
      cond_both (leb (length f) p) nothing
      (cond (ltb (length f - p) 3) (broken p)
      (cond (ltb (length f - p - 3) (announced f p)) (broken p) (cond (a_tag (get_or f p 0)) (fields.found (get_or f p 0) p (contents_at f p)) (broken p))))
      (λ s. due tag p s ≡ missing p) (λ e. refl) (λ e. rw (lt-ltb (length f - p) 3 (omega arith)))

  module _ (t h l : ℕ) (r : List ℕ) (at : drop p f ≡ t ∷ h ∷ l ∷ r) where
    rest_at : drop (p + 3) f ≡ r
    rest_at = sym (drop-drop 3 p f) ∙ ap (drop 3) at

    -- what stands there, by the bytes from there on
    stands : standing f p ≡ cond (ltb (length r) (word h l)) (broken p) (cond (a_tag t) (fields.found t p (take (word h l) r)) (broken p))
    stands =
        let len : length f - p ≡ length (t ∷ h ∷ l ∷ r) = sym (length-drop p f) ∙ ap length at in
        let more : length f - p - 3 ≡ length r = omega arith in
        let n : announced f p ≡ word h l = ap₂ word (byte_at f (t ∷ h ∷ l ∷ r) p 1 at) (byte_at f (t ∷ h ∷ l ∷ r) p 2 at) in
        let e : get_or f p 0 ≡ t = ap (λ i. get_or f i 0) (sym (add-zero p)) ∙ byte_at f (t ∷ h ∷ l ∷ r) p 0 at in
        rw (lt-leb (length f) p (omega arith), le-ltb (length f - p) 3 (omega arith), more, n, e, rest_at)

    -- the field is the one
    this : eqb t tag ≡ true → word h l ≤ length r →
        Ok (record { place = p; contents = take (word h l) r; rest = drop (word h l) r }) ≡ expected f p (due tag p (cond (a_tag t) (fields.found t p (take (word h l) r)) (broken p)))
    this y fits =
        let q = eqb-true t tag y in
        let k = ap a_tag q ∙ known in
        let w = length-take-le (word h l) r fits in
        let j : p + 3 + word h l ≡ p + (3 + length (take (word h l) r)) = omega arith in
        let d : drop (word h l) r ≡ drop (p + (3 + length (take (word h l) r))) f = ap (drop (word h l)) (sym rest_at) ∙ drop-drop (word h l) (p + 3) f ∙ ap (λ n. drop n f) j in
        rw (k, y) (ap (λ z. Ok (record { place = p; contents = take (word h l) r; rest = z })) d)

    -- the field is another
    other : eqb t tag ≡ false → refuse (BadPolicyField p) ≡ expected f p (due tag p (cond (a_tag t) (fields.found t p (take (word h l) r)) (broken p)))
    other y = cond_both (a_tag t) (fields.found t p (take (word h l) r)) (broken p) (λ s. refuse (BadPolicyField p) ≡ expected f p (due tag p s)) (λ e. rw y) (λ e. refl)

    whole : cond (eqb t tag && leb (word h l) (length r)) (Ok (record { place = p; contents = take (word h l) r; rest = drop (word h l) r })) (refuse (BadPolicyField p))
        ≡ expected f p (due tag p (standing f p))
    whole = rw stands (by (cases_lt (length r) (word h l)) (cases_Bool (eqb t tag)))
      where
        by : ((length r < word h l) ⊎ (word h l ≤ length r)) → ((eqb t tag ≡ true) ⊎ (eqb t tag ≡ false)) →
            cond (eqb t tag && leb (word h l) (length r)) (Ok (record { place = p; contents = take (word h l) r; rest = drop (word h l) r })) (refuse (BadPolicyField p))
            ≡ expected f p (due tag p (cond (ltb (length r) (word h l)) (broken p) (cond (a_tag t) (fields.found t p (take (word h l) r)) (broken p))))
        by (inl s) b = rw (lt-leb (word h l) (length r) s, and_right (eqb t tag) false refl, lt-ltb (length r) (word h l) s)
        by (inr s) (inl y) = rw (y, le-leb (word h l) (length r) s, le-ltb (length r) (word h l) s) (this y s)
        by (inr s) (inr y) = rw (y, le-ltb (length r) (word h l) s) (other y)

  pub expect_due : expect BadPolicyField tag p (drop p f) ≡ expected f p (due tag p (standing f p))
  unfolding expect
  expect_due = go (drop p f) refl
    where
      go : (r : List ℕ) → drop p f ≡ r → expect BadPolicyField tag p r ≡ expected f p (due tag p (standing f p))
      go [] at = sym (ap (expected f p) (short [] at (omega arith)))
      go (t ∷ []) at = sym (ap (expected f p) (short (t ∷ []) at (omega arith)))
      go (t ∷ h ∷ []) at = sym (ap (expected f p) (short (t ∷ h ∷ []) at (omega arith)))
      go (t ∷ h ∷ l ∷ r) at = whole t h l r at

-- the place behind a field that was due
due_behind : (tag p : ℕ) (c : List ℕ) (s : Standing) → contents c ≡ due tag p s → behind p s ≡ p + (3 + length c)
due_behind tag p c nothing e = absurd (let z : ◌≡◌ {A = ℕ} 0 1 = cc in omega arith)
due_behind tag p c (broken q) e = absurd (let z : ◌≡◌ {A = ℕ} 0 1 = cc in omega arith)
due_behind tag p c (fields.found t q d) e =
    cond_both (eqb t tag) (contents d) (missing p) (λ x. contents c ≡ x → p + 3 + length d ≡ p + (3 + length c)) (λ y h.
    let z : d ≡ c = cc in
    let l = ap length z in
    omega arith)
    (λ y h. absurd (let z : ◌≡◌ {A = ℕ} 0 1 = cc in omega arith)) e

module _ (f : List ℕ) (tag p : ℕ) where
  -- what holds of nothing, of what is broken and of a field of some tag holds of what stands there
  stands_by : (P : Standing → Type 0) → P nothing → P (broken p) → (a_tag (get_or f p 0) ≡ true → P (fields.found (get_or f p 0) p (contents_at f p))) → P (standing f p)
  stands_by P n b k = go (leb (length f) p) (ltb (length f - p) 3) (ltb (length f - p - 3) (announced f p)) (a_tag (get_or f p 0)) refl
    where
      go : (e s l t : Bool) → a_tag (get_or f p 0) ≡ t →
          P (cond e nothing (cond s (broken p) (cond l (broken p) (cond t (fields.found (get_or f p 0) p (contents_at f p)) (broken p)))))
      go true s l t q = n
      go false true l t q = b
      go false false true t q = b
      go false false false true q = k q
      go false false false false q = b

  -- a tag that no field has is never there
  unknown_due : a_tag tag ≡ false → due tag p (standing f p) ≡ missing p
  unknown_due u =
      stands_by (λ s. due tag p s ≡ missing p) refl refl (λ k.
      cond_both (eqb (get_or f p 0) tag) (contents (contents_at f p)) (missing p) (λ d. d ≡ missing p)
      (λ y. absurd (true≢false (sym k ∙ ap a_tag (eqb-true (get_or f p 0) tag y) ∙ u))) (λ y. refl))

  -- what is due, by what stands there
  pub piece_due : due_piece tag p f ≡ piece_of (expected f p (due tag p (standing f p)))
  piece_due =
      cond_both (a_tag tag) (piece_of (expect BadPolicyField tag p (drop p f))) (Err (BadPolicyField p))
      (λ r. r ≡ piece_of (expected f p (due tag p (standing f p)))) (λ k. ap piece_of (expect_due f tag p k))
      (λ u. ap (λ d. piece_of (expected f p d)) (sym (unknown_due u)))

  -- a tag that some field has is there as the model expects it
  pub piece_known : a_tag tag ≡ true → due_piece tag p f ≡ piece_of (expect BadPolicyField tag p (drop p f))
  piece_known k = ap (λ b. cond b (piece_of (expect BadPolicyField tag p (drop p f))) (Err (BadPolicyField p))) k

module _ (f g : List ℕ) (tag p q : ℕ) (same : g ≡ f) (here : q ≡ p) where
  pub piece_found : (c : List ℕ) (n : ℕ) → contents c ≡ due tag q (standing g q) → n ≡ behind q (standing g q) →
      Ok (record { contents = c; next = n }) ≡ due_piece tag p f
  piece_found c n e b =
      let k = due_behind tag q c (standing g q) e in
      let w : due_piece tag q g ≡ Ok (record { contents = c; next = q + (3 + length c) }) = piece_due g tag q ∙ ap (λ d. piece_of (expected g q d)) (sym e) in
      let v : n ≡ q + (3 + length c) = b ∙ k in
      ap (λ m. Ok (record { contents = c; next = m })) v ∙ sym w ∙ ap₂ (λ a b. due_piece tag a b) here same

  pub piece_missing : (m : ℕ) → missing m ≡ due tag q (standing g q) → Err (BadPolicyField p) ≡ due_piece tag p f
  piece_missing m e =
      let w : due_piece tag q g ≡ Err (BadPolicyField q) = piece_due g tag q ∙ ap (λ d. piece_of (expected g q d)) (sym e) in
      ap (λ k. Err (BadPolicyField k)) (sym here) ∙ sym w ∙ ap₂ (λ a b. due_piece tag a b) here same

module _ (f : List ℕ) (tag p : ℕ) where
  -- the place behind a field that was read
  pub piece_next : (c : List ℕ) (n : ℕ) → Ok (record { contents = c; next = n }) ≡ due_piece tag p f → n ≡ p + (3 + length c)
  piece_next c n e = go (due tag p (standing f p)) (e ∙ piece_due f tag p)
    where
      go : (d : Due) → Ok (record { contents = c; next = n }) ≡ piece_of (expected f p d) → n ≡ p + (3 + length c)
      go (contents b) h =
          let z : ◌≡◌ {A = Found} (record { contents = c; next = n }) (record { contents = b; next = p + (3 + length b) }) = cc in
          ap (λ x. x.next) z ∙ ap (λ x. p + (3 + length x)) (ap (λ x. x.contents) (sym z))
      go (missing q) h = absurd (let z : ◌≡◌ {A = ℕ} 0 1 = cc in omega arith)
