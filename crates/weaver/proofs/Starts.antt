-- Woven indices, over plain lists.
use Rattle.std.proofs.Common.{◌≡◌, ℕ, zero, suc, ◌+◌, ◌<◌, ◌≤◌, min, Bool, true, false, cond, leb, Some, None, ◌⊎◌, List, [], ◌∷◌, map, length, get_or, set, sym, refl, ap, ◌∙◌, inl, inr, add-one, arith, length-append, get_or-set_other, get_or-set_same}
use lib.ListN.{length-map}
use Rattle.std.proofs.lemmas.List.{get_or-map}
use Rattle.std.proofs.lemmas.Bool.{cases_eq, le-leb, lt-leb, leb-true, leb-false}
use Rattle.model.specs.declared.Instr.{Instr}
use Rattle.model.specs.declared.Own.{Own}
use Rattle.model.specs.declared.Test.{Test}
use Rattle.model.specs.declared.Moment.{Moment}
use Rattle.model.specs.Policy.{Automaton, Blocks}
use Rattle.model.specs.Weave.{retarget, watched_call, piece, size, start, laid, woven}
use Rattle.model.proofs.WovenCode.{piece_size}
use Rattle.model.proofs.CheckEntries.{start_retarget}
use Rattle.weaver.specs.declared.indices.WovenIndices.{WovenIndices}
use Rattle.weaver.specs.Pieces.{own_of, own_in, instr_in, instrs, owns, within_limit}
use Rattle.weaver.specs.Indices.{index_of, Filled}

module _ (w : ℕ → Bool) (block : ℕ → Moment → List Test) where
  pub start_first : (cs : List Own) → start w block cs 0 ≡ 0
  start_first [] = refl
  start_first (c ∷ cs) = refl

  next : (cs : List Own) (i : ℕ) (d : Own) → i < length cs → start w block cs (suc i) ≡ start w block cs i + size w block (get_or cs i d)
  next [] i d h = absurd (omega arith)
  next (c ∷ cs) zero d h = let z = start_first cs in omega arith
  next (c ∷ cs) (suc i) d h = let e = next cs i d (omega arith) in omega arith

  pub start_next : (cs : List Own) (i : ℕ) (d : Own) → i < length cs → start w block cs (i + 1) ≡ start w block cs i + size w block (get_or cs i d)
  start_next cs i d h = rw (add-one i) (next cs i d h)

  -- past the end the index stays
  start_past : (cs : List Own) (t : ℕ) → start w block cs (min t (length cs)) ≡ start w block cs t
  start_past [] t = refl
  start_past (c ∷ cs) zero = let e : min 0 (length (c ∷ cs)) ≡ 0 = omega arith in ap (start w block (c ∷ cs)) e
  start_past (c ∷ cs) (suc t) =
      let e : min (suc t) (length (c ∷ cs)) ≡ suc (min t (length cs)) = omega arith in
      ap (start w block (c ∷ cs)) e ∙ ap (λ (n : ℕ). size w block c + n) (start_past cs t)

  -- no index lies behind the end
  below_end : (cs : List Own) (t : ℕ) → start w block cs t ≤ start w block cs (length cs)
  below_end [] t = omega arith
  below_end (c ∷ cs) zero = omega arith
  below_end (c ∷ cs) (suc t) = let h = below_end cs t in omega arith

  laid_length : (i : ℕ) (ds : List Own) → length (laid w block i ds) ≡ start w block ds (length ds)
  laid_length i [] = refl
  laid_length i (d ∷ ds) =
      let p = piece_size block i d (watched_call w d) in
      let h = laid_length (i + size w block d) ds in
      length-append (piece block i d (watched_call w d)) (laid w block (i + size w block d) ds) ∙ omega arith

  pub woven_length : (cs : List Own) → length (woven w block cs) ≡ start w block cs (length cs)
  woven_length cs =
      laid_length 0 (map (retarget (start w block cs)) cs) ∙ start_retarget w block (start w block cs) cs (length (map (retarget (start w block cs)) cs)) ∙
      ap (start w block cs) (length-map cs (retarget (start w block cs)))

  pub start_below : (cs : List Own) (t : ℕ) → start w block cs t ≤ length (woven w block cs)
  start_below cs t = let a = below_end cs t in let b = woven_length cs in omega arith

  -- the indices up to i are filled in
  module _ (cs : List Own) where
    abbrev pub UpTo : ℕ → List ℕ → Type 0
    UpTo i all = (j : ℕ) → j ≤ i → get_or all j 0 ≡ start w block cs j

    pub up_to_first : (all : List ℕ) → 0 < length all → UpTo 0 (set all 0 0)
    up_to_first all h j k = let e : j ≡ 0 = omega arith in rw e (get_or-set_same all 0 0 0 h ∙ sym (start_first cs))

    pub up_to_more : (i v : ℕ) (all : List ℕ) → i + 1 < length all → v ≡ start w block cs (i + 1) → UpTo i all → UpTo (i + 1) (set all (i + 1) v)
    up_to_more i v all h e f j k = go (cases_eq j (i + 1))
      where
        go : (j ≡ i + 1) ⊎ (j ≡ i + 1 → ⊥) → get_or (set all (i + 1) v) j 0 ≡ start w block cs j
        go (inl z) = rw z (get_or-set_same all (i + 1) v 0 h ∙ e)
        go (inr z) = get_or-set_other all (i + 1) j v 0 z ∙ f j (omega arith)

-- ---- a method's instructions

module _ (n : ℕ) (code : List (List ℕ)) where
  pub length_owns : length (owns n code) ≡ length code
  length_owns = length-map _ _ ∙ length-map _ _

  pub own_item : (i : ℕ) → i < length code → get_or (owns n code) i Own.End ≡ own_in n (get_or code i [])
  own_item i h =
      let l = length-map code (instr_in n) in
      get_or-map own_of (instrs n code) i (Instr.Own Own.End) Own.End (omega arith) ∙ ap own_of (get_or-map (instr_in n) code i [] (Instr.Own Own.End) h)

-- ---- indices that were filled in

pub retargeted : (A : Automaton) (B : Blocks) (cs : List Own) (s : WovenIndices) → Filled A B cs s → (c : Own) → retarget (index_of s) c ≡ retarget (start A.watched (λ k t. B k t 0) cs) c
retargeted A B cs s f c = ap (λ (f : ℕ → ℕ). retarget f c) (λ i t. f t i)

pub filled_all : (A : Automaton) (B : Blocks) (cs : List Own) (s : WovenIndices) → s.count ≡ length cs → UpTo A.watched (λ k t. B k t 0) cs (length cs) s.all → Filled A B cs s
filled_all A B cs s e f t =
    f (min t s.count) (omega arith) ∙ ap (λ n. start A.watched (λ k t. B k t 0) cs (min t n)) e ∙ start_past A.watched (λ k t. B k t 0) cs t

-- ---- the limit of a method's size

pub within : (n m : ℕ) → m ≡ n → m ≤ 4096 → Some m ≡ within_limit n
within n m e h = rw (le-leb n 4096 (omega arith)) (ap Some e)

pub over : (n : ℕ) → 4096 < n → None ≡ within_limit n
over n h = rw (lt-leb n 4096 h)

pub within_some : (n m : ℕ) → Some m ≡ within_limit n → (m ≡ n) × (n ≤ 4096)
within_some n m e = by (leb n 4096) refl e
  where
    by : (b : Bool) → leb n 4096 ≡ b → Some m ≡ cond b (Some n) None → (m ≡ n) × (n ≤ 4096)
    by true h e = (cc, leb-true _ _ h)
    by false h e = cc

pub within_none : (n : ℕ) → None ≡ within_limit n → 4096 < n
within_none n e = by (leb n 4096) refl e
  where
    by : (b : Bool) → leb n 4096 ≡ b → None ≡ cond b (Some n) None → 4096 < n
    by true h e = cc
    by false h e = leb-false _ _ h
