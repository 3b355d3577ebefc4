-- The instruction at an index of a method's code.
use Rattle.std.proofs.Common.{◌≡◌, ℕ, zero, suc, ◌+◌, ◌*◌, ◌<◌, ◌≤◌, true, leb, List, [], ◌∷◌, map, length, get_or, IfSome, Some, None, Option, sym, refl, ap, ◌∙◌, arith, rules}
use Rattle.std.specs.List.{AllByRecursion}
use Rattle.std.specs.Option.{option_map}
use Rattle.model.specs.Fields.{contents_at}
use Rattle.std.proofs.lemmas.Bool.{and_parts, ltb-true, leb-true, leb-false, cond_both}
use Rattle.model.specs.declared.Instr.{Instr}
use Rattle.model.specs.declared.Own.{Own}
use Rattle.model.specs.Words.{Quad, quads, quad_at, word, Entry, table, find, limit, fits, made, decode}
use Rattle.model.proofs.Options.{none_some}
use Rattle.model.proofs.Words.{found}
use Rattle.applet.specs.Applets.{or_end, code_in, nth, quad_in}
use Rattle.machine.specs.Ranges.{Valid}

-- four bytes further on
behind_four : (a b c d : ℕ) (r : List ℕ) (p : ℕ) → quad_at (a ∷ b ∷ c ∷ d ∷ r) (4 + p) ≡ quad_at r p
behind_four a b c d r p =
    let xs : List ℕ = a ∷ b ∷ c ∷ d ∷ r in
    let e : 4 + p ≡ suc (suc (suc (suc p))) = omega arith in
    let f : 4 + p + 1 ≡ suc (suc (suc (suc (p + 1)))) = omega arith in
    let g : 4 + p + 2 ≡ suc (suc (suc (suc (p + 2)))) = omega arith in
    let h : 4 + p + 3 ≡ suc (suc (suc (suc (p + 3)))) = omega arith in
    λ i. record { a = get_or xs (e i) 0; b = get_or xs (f i) 0; c = get_or xs (g i) 0; d = get_or xs (h i) 0 }

module _ (n : ℕ) where
  abbrev code_of : List ℕ → List Instr
  code_of xs = map (λ q. or_end (decode n q)) (quads xs)

  inside : (xs : List ℕ) (i : ℕ) → 4 * i + 4 ≤ length xs → or_end (decode n (quad_at xs (4 * i))) ≡ get_or (code_of xs) i (Instr.Own Own.End)
  inside [] i h = absurd (omega arith)
  inside (a ∷ []) i h = absurd (omega arith)
  inside (a ∷ b ∷ []) i h = absurd (omega arith)
  inside (a ∷ b ∷ c ∷ []) i h = absurd (omega arith)
  inside (a ∷ b ∷ c ∷ d ∷ r) zero h = refl
  inside (a ∷ b ∷ c ∷ d ∷ r) (suc i) h =
      let e : 4 * suc i ≡ 4 + 4 * i = omega arith in
      ap (λ (k : ℕ). or_end (decode n (quad_at (a ∷ b ∷ c ∷ d ∷ r) k))) e
      ∙ ap (λ (q : Quad). or_end (decode n q)) (behind_four a b c d r (4 * i))
      ∙ inside r i (omega arith)

  outside : (xs : List ℕ) (i : ℕ) → length xs < 4 * i + 4 → Instr.Own Own.End ≡ get_or (code_of xs) i (Instr.Own Own.End)
  outside [] i h = refl
  outside (a ∷ []) i h = refl
  outside (a ∷ b ∷ []) i h = refl
  outside (a ∷ b ∷ c ∷ []) i h = refl
  outside (a ∷ b ∷ c ∷ d ∷ r) zero h = absurd (omega arith)
  outside (a ∷ b ∷ c ∷ d ∷ r) (suc i) h = outside r i (omega arith)

-- operands in their ranges name what there is
abbrev Good : Entry → Type 0
Good e = (n x y : ℕ) → x < limit n e.x → y < limit n e.y → Valid (e.make x y)

good : AllByRecursion Good table
unfolding table
good = search rules

module _ (n : ℕ) (q : Quad) (i : Instr) where
  valid_at : (e : Entry) → find q.a table ≡ Some e → fits n e q.b (word q.c q.d) ≡ true → Some (e.make q.b (word q.c q.d)) ≡ Some i → Valid i
  valid_at e f t r =
      let k = found Good q.a table e good f in
      let b = and_parts _ _ t in
      let v = k.0 n q.b (word q.c q.d) (ltb-true _ _ b.0) (ltb-true _ _ b.1) in
      let z : e.make q.b (word q.c q.d) ≡ i = cc in
      rw z at v

  valid_by : (o : Option Entry) → find q.a table ≡ o → made n q.b (word q.c q.d) o ≡ Some i → Valid i
  valid_by None f r = absurd (none_some r)
  valid_by (Some e) f r =
      cond_both (fits n e q.b (word q.c q.d)) (Some (e.make q.b (word q.c q.d))) None (λ r. r ≡ Some i → Valid i)
      (valid_at e f) (λ t r. absurd (none_some r)) r

  pub valid : decode n q ≡ Some i → Valid i
  unfolding decode
  valid p = valid_by (find q.a table) refl p

pub valid_low : (n i : ℕ) (q : Quad) (o : Option Instr) → o ≡ decode n q → i < 16384 → IfSome o (λ x. Valid x × (i < 65536))
valid_low n i q None e h = tt
valid_low n i q (Some x) e h = (valid n q x (sym e), omega arith)

-- four bytes of code c at index i
quad_here : (n i : ℕ) (c b : List ℕ) → Some b ≡ quad_in (Some c) i → or_end (decode n (quad_at b 0)) ≡ get_or (code_of n c) i (Instr.Own Own.End)
quad_here n i c b e =
    cond_both (leb (4 * i + 4) (length c)) (Some (get_or c (4 * i) 0 ∷ get_or c (4 * i + 1) 0 ∷ get_or c (4 * i + 2) 0 ∷ get_or c (4 * i + 3) 0 ∷ [])) None
    (λ r. Some b ≡ r → or_end (decode n (quad_at b 0)) ≡ get_or (code_of n c) i (Instr.Own Own.End))
    (
    λ t h.
    let z : b ≡ get_or c (4 * i) 0 ∷ get_or c (4 * i + 1) 0 ∷ get_or c (4 * i + 2) 0 ∷ get_or c (4 * i + 3) 0 ∷ [] = cc in
    ap (λ (x : List ℕ). or_end (decode n (quad_at x 0))) z ∙ inside n c i (leb-true _ _ t)
    )
    (λ t h. absurd (none_some (sym h))) e

quad_past : (n i : ℕ) (c : List ℕ) → None ≡ quad_in (Some c) i → Instr.Own Own.End ≡ get_or (code_of n c) i (Instr.Own Own.End)
quad_past n i c e =
    cond_both (leb (4 * i + 4) (length c)) (Some (get_or c (4 * i) 0 ∷ get_or c (4 * i + 1) 0 ∷ get_or c (4 * i + 2) 0 ∷ get_or c (4 * i + 3) 0 ∷ [])) None
    (λ r. None ≡ r → Instr.Own Own.End ≡ get_or (code_of n c) i (Instr.Own Own.End))
    (λ t h. absurd (none_some h)) (λ t h. outside n c i (leb-false _ _ t)) e

-- at index i of method m, whose code stands in file f
pub quad_some : (f ps : List ℕ) (n m i : ℕ) (b : List ℕ) → Some b ≡ quad_in (option_map (contents_at f) (nth ps m)) i →
    or_end (decode n (quad_at b 0)) ≡ get_or (get_or (map (code_in f n) ps) m []) i (Instr.Own Own.End)
quad_some f [] n m i b e = absurd (none_some (sym e))
quad_some f (p ∷ ps) n zero i b e = quad_here n i (contents_at f p) b e
quad_some f (p ∷ ps) n (suc m) i b e = quad_some f ps n m i b e

pub quad_none : (f ps : List ℕ) (n m i : ℕ) → None ≡ quad_in (option_map (contents_at f) (nth ps m)) i → Instr.Own Own.End ≡ get_or (get_or (map (code_in f n) ps) m []) i (Instr.Own Own.End)
quad_none f [] n m i e = refl
quad_none f (p ∷ ps) n zero i e = quad_past n i (contents_at f p) e
quad_none f (p ∷ ps) n (suc m) i e = quad_none f ps n m i e
