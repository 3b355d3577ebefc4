-- A field that is due at a place of a file, as the model expects it there.
use Rattle.std.proofs.Common.{◌≡◌, ℕ, ◌+◌, ◌-◌, ◌<◌, ◌≤◌, Bool, true, false, cond, ◌&&◌, eqb, ltb, leb, List, [], ◌∷◌, length, get_or, drop, Ok, sym, refl, ap, ◌∙◌, ap₂, arith, length-drop, length-take}
use Rattle.std.proofs.lemmas.List.{drop_more, drop-drop}
use Rattle.std.proofs.lemmas.Bool.{leb-true, leb-false, le-leb, lt-leb, ltb-true, ltb-false, eqb-true}
use Rattle.model.specs.declared.Refusal.TheVariants.{BadField}
use Rattle.model.specs.Fields.{Read, Part, refuse, expect, standing, behind, Standing, nothing, broken, found, announced, contents_at, a_tag}
use Rattle.tlv.specs.Parts.{Due, contents, missing, due}
use Rattle.applet.specs.Stages.{due_at}

-- the field with these contents at place p of f
abbrev pub here : List ℕ → ℕ → List ℕ → Part
here f p c = record { place = p; contents = c; rest = drop (p + (3 + length c)) f }

-- a field that is due, as the model reads it
abbrev pub read_due : List ℕ → ℕ → Due → Read Part
read_due f p (contents c) = Ok (here f p c)
read_due f p (missing q) = refuse (BadField q)

module _ (f : List ℕ) (tag p : ℕ) (known : a_tag tag ≡ true) where
  -- a row of bytes of which fewer than three are left
  cut_off : (r : List ℕ) → length r < 3 → expect BadField tag p r ≡ refuse (BadField p)
  unfolding expect
  cut_off [] h = refl
  cut_off (a ∷ []) h = refl
  cut_off (a ∷ (b ∷ [])) h = refl
  cut_off (a ∷ (b ∷ (c ∷ r))) h = absurd (omega arith)

  -- the tag and the length are there
  three : p + 3 ≤ length f → drop p f ≡ get_or f p 0 ∷ (get_or f (p + 1) 0 ∷ (get_or f (p + 2) 0 ∷ drop (p + 3) f))
  three h =
      drop_more f p 0 (omega arith) ∙ ap {B = List ℕ} (λ r. get_or f p 0 ∷ r)
      (drop_more f (p + 1) 0 (omega arith) ∙ ap₂ {C = List ℕ} (λ x r. x ∷ r) refl
      (ap (λ k. drop k f) (omega arith) ∙ drop_more f (p + 2) 0 (omega arith) ∙ ap {B = List ℕ} (λ r. get_or f (p + 2) 0 ∷ r) (ap (λ k. drop k f) (omega arith))))

  -- whether the contents fit
  fits_by : (b e : Bool) → eqb (get_or f p 0) tag ≡ e → ltb (length f - p - 3) (announced f p) ≡ b → p + 3 ≤ length f →
      cond (eqb (get_or f p 0) tag && leb (announced f p) (length (drop (p + 3) f)))
      (Ok (record { place = p; contents = contents_at f p; rest = drop (announced f p) (drop (p + 3) f) })) (refuse (BadField p)) ≡
      read_due f p (due tag p (cond b (broken p) (cond (a_tag (get_or f p 0)) (found (get_or f p 0) p (contents_at f p)) (broken p))))
  fits_by true false q t h = rw q
  fits_by true true q t h =
      let k = ltb-true _ _ t in
      let z : leb (announced f p) (length (drop (p + 3) f)) ≡ false = lt-leb _ _ (omega (arith, length-drop (p + 3) f)) in
      rw (q, z)
  fits_by false false q t h = rw q (sym (by_tag (a_tag (get_or f p 0))))
    where
      by_tag : (b : Bool) → read_due f p (due tag p (cond b (found (get_or f p 0) p (contents_at f p)) (broken p))) ≡ refuse (BadField p)
      by_tag true = rw q
      by_tag false = refl
  fits_by false true q t h =
      let k = ltb-false _ _ t in
      let z : leb (announced f p) (length (drop (p + 3) f)) ≡ true = le-leb _ _ (omega (arith, length-drop (p + 3) f)) in
      let g : a_tag (get_or f p 0) ≡ true = ap a_tag (eqb-true _ _ q) ∙ known in
      let n : length (contents_at f p) ≡ announced f p = length-take (announced f p) (drop (p + 3) f) ∙ omega (arith, length-drop (p + 3) f) in
      let d : drop (announced f p) (drop (p + 3) f) ≡ drop (p + (3 + length (contents_at f p))) f =
      drop-drop (announced f p) (p + 3) f ∙ ap (λ k. drop k f) (omega arith) in
      rw (g, q, z) (ap (λ r. Ok (record { place = p; contents = contents_at f p; rest = r })) d)

  whole : (b : Bool) → ltb (length f - p) 3 ≡ b → p < length f →
      expect BadField tag p (drop p f) ≡
      read_due f p (due tag p (cond b (broken p)
      (cond (ltb (length f - p - 3) (announced f p)) (broken p) (cond (a_tag (get_or f p 0)) (found (get_or f p 0) p (contents_at f p)) (broken p)))))
  unfolding expect
  whole true t h = let k = ltb-true _ _ t in cut_off (drop p f) (omega (arith, length-drop p f))
  whole false t h =
      let k = ltb-false _ _ t in
      let l : p + 3 ≤ length f = omega arith in
      ap (expect BadField tag p) (three l) ∙ fits_by (ltb (length f - p - 3) (announced f p)) (eqb (get_or f p 0) tag) refl refl l

  -- what is expected at a place is what is due there
  pub expect_due : expect BadField tag p (drop p f) ≡ read_due f p (due_at tag f p)
  expect_due = by (leb (length f) p) refl
    where
      by : (b : Bool) → leb (length f) p ≡ b → expect BadField tag p (drop p f) ≡ read_due f p (due_at tag f p)
      by true t = let k = leb-true _ _ t in rw t (cut_off (drop p f) (omega (arith, length-drop p f)))
      by false t = let k = leb-false _ _ t in rw t (whole (ltb (length f - p) 3) refl k)

  -- what stands there, by the four tests
  abbrev by_tests : Bool → Bool → Bool → Bool → Standing
  by_tests b₁ b₂ b₃ b₄ = cond b₁ nothing (cond b₂ (broken p) (cond b₃ (broken p) (cond b₄ (found (get_or f p 0) p (contents_at f p)) (broken p))))

  never : (q : ℕ) (c : List ℕ) (G : Type 0) → missing q ≡ contents c → G
  never q c G e = absurd cc

  is_found : (c : List ℕ) (e : Bool) → cond e (contents (contents_at f p)) (missing p) ≡ contents c → contents_at f p ≡ c
  is_found c true h = cc
  is_found c false h = never p c (contents_at f p ≡ c) h

  tested : (c : List ℕ) (b₁ b₂ b₃ b₄ : Bool) → due tag p (by_tests b₁ b₂ b₃ b₄) ≡ contents c →
      (contents_at f p ≡ c) × (behind p (by_tests b₁ b₂ b₃ b₄) ≡ p + 3 + length c)
  tested c true b₂ b₃ b₄ e = never p c _ e
  tested c false true b₃ b₄ e = never p c _ e
  tested c false false true b₄ e = never p c _ e
  tested c false false false false e = never p c _ e
  tested c false false false true e =
      let z = is_found c (eqb (get_or f p 0) tag) e in (z, ap (λ (x : List ℕ). p + 3 + length x) z)

  -- the contents of a field that is due are that part of the file, and the next place is behind them
  pub due_contents : (c : List ℕ) → due_at tag f p ≡ contents c → (contents_at f p ≡ c) × (behind p (standing f p) ≡ p + 3 + length c)
  due_contents c e =
      tested c (leb (length f) p) (ltb (length f - p) 3) (ltb (length f - p - 3) (announced f p)) (a_tag (get_or f p 0)) e
