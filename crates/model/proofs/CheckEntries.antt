-- The entries of laid code, and the targets that are no entry.
use Rattle.std.proofs.Common.{◌≡◌, ℕ, zero, suc, ◌+◌, ◌<◌, Bool, true, false, cond, List, [], ◌∷◌, ◌++◌, map, length, get_or, replicate, Some, None, Option, refl, ap, ◌∙◌, append_assoc, add-zero, suc-add, arith, length-append}
use mathlib.Core.Bool.{false≢true}
use lib.ListN.{length-map}
use Rattle.std.proofs.lemmas.List.{get_or-append-add, length-replicate}
use Rattle.std.specs.List.{AllByRecursion}
use Rattle.model.specs.declared.Moment.{Moment}
use Rattle.model.specs.declared.Own.{Own}
use Rattle.model.specs.declared.Test.{Test}
use Rattle.model.specs.declared.Instr.{Instr}
use Rattle.model.specs.Weave.{target, retarget, Watched, watched_call, inner, site, behind, piece, more, size, laid, start}
use Rattle.model.specs.Check.{Fault, fault, is_entry, marks, stray}
use Rattle.model.specs.Stripping.{rank}
use Rattle.model.proofs.Targets.{Calls, calls, more_retarget}
use Rattle.model.proofs.WovenCode.{behind_is}
use Rattle.model.proofs.Options.{never}
use Rattle.model.specs.declared.Refusal.TheVariants.{NoEntry}

rank_pad : (n : ℕ) (es : List Bool) (t : ℕ) → get_or (replicate n false ++ es) t false ≡ true →
    (s : ℕ) × (t ≡ n + s) × (get_or es s false ≡ true) × (rank (replicate n false ++ es) t ≡ rank es s)
rank_pad zero es t h = (t, omega arith, h, refl)
rank_pad (suc n) es zero h = absurd (false≢true h)
rank_pad (suc n) es (suc t) h = let (s, p, q, r) = rank_pad n es t h in (s, omega arith, q, r)

module _ (block : ℕ → Moment → List Test) where
  marks_past : (xs rest : List Instr) (n : ℕ) → n ≡ length xs → marks block n (xs ++ rest) ≡ replicate n false ++ marks block zero rest
  marks_past [] rest zero p = refl
  marks_past [] rest (suc n) p = absurd (omega arith)
  marks_past (x ∷ xs) rest zero p = absurd (omega arith)
  marks_past (x ∷ xs) rest (suc n) p = ap (λ bs. false ∷ bs) (marks_past xs rest n (omega arith))

  stray_past : (es : List Bool) (xs : List Instr) (c : Instr) (rest : List Instr) (i n j : ℕ) → n ≡ suc (length xs) → j ≡ i + length xs →
      stray block es i n (xs ++ (c ∷ rest)) ≡ stray block es j 1 (c ∷ rest)
  stray_past es xs c rest i zero j p q = absurd (omega arith)
  stray_past es [] c rest i (suc zero) j p q = ap (λ m. stray block es m 1 (c ∷ rest)) (omega arith)
  stray_past es [] c rest i (suc (suc n)) j p q = absurd (omega arith)
  stray_past es (x ∷ xs) c rest i (suc zero) j p q = absurd (omega arith)
  stray_past es (x ∷ xs) c rest i (suc (suc n)) j p q = stray_past es xs c rest (i + 1) (suc n) j (omega arith) (omega arith)

  stray_site : (es : List Bool) (i k t : ℕ) (rest : List Instr) →
      stray block es i zero (site block i k t ++ rest) ≡ cond (get_or es t false) (stray block es (i + suc (behind block k)) zero rest)
      (fault NoEntry (i + behind block k))
  stray_site es i k t rest =
      let b : behind block k ≡ suc (length (inner block i k)) = simp (length-append, length-map) (omega arith) in
      let past = stray_past es (inner block i k) (Instr.Own (Own.Jump t)) rest (i + 1) (behind block k) (i + behind block k) b (omega arith) in
      let q : i + behind block k + 1 ≡ i + suc (behind block k) = omega arith in
      rw (append_assoc (inner block i k)) (past ∙ ap (λ m. cond (get_or es t false) (stray block es m zero rest) (fault NoEntry (i + behind block k))) q)

module _ (watched : ℕ → Bool) (block : ℕ → Moment → List Test) where
  -- which indices of laid code are entries
  abbrev pub flags : List Own → List Bool
  flags [] = []
  flags (d ∷ ds) = true ∷ (replicate (more block (watched_call watched d)) false ++ flags ds)

  -- the first target of laid code that is no entry
  abbrev pub missed : List Bool → ℕ → List Own → Option Fault
  missed es i [] = None
  missed es i (d ∷ ds) = cond (is_entry es (target d)) (missed es (i + size watched block d) ds) (fault NoEntry (i + more block (watched_call watched d)))

  pub marks_laid : (i : ℕ) (ds : List Own) → marks block zero (laid watched block i ds) ≡ flags ds
  marks_laid i [] = refl
  marks_laid i (d ∷ ds) = by (watched_call watched d) (marks_laid (i + size watched block d) ds)
    where
      by : (o : Option Watched) → marks block zero (laid watched block (i + suc (more block o)) ds) ≡ flags ds →
          marks block zero (piece block i d o ++ laid watched block (i + suc (more block o)) ds) ≡ true ∷ (replicate (more block o) false ++ flags ds)
      by None ih = ap (λ bs. true ∷ bs) ih
      by (Some w) ih =
          ap (λ bs. true ∷ bs) (marks_past block (inner block i w.call ++ (Instr.Own (Own.Jump w.raised) ∷ [])) _ (behind block w.call)
          (behind_is block i w.call w.raised) ∙ ap (λ bs. replicate (behind block w.call) false ++ bs) ih)

  pub stray_laid : (es : List Bool) (i : ℕ) (ds : List Own) → stray block es i zero (laid watched block i ds) ≡ missed es i ds
  stray_laid es i [] = refl
  stray_laid es i (d ∷ ds) = by (watched_call watched d) (calls watched d) (stray_laid es (i + size watched block d) ds)
    where
      by : (o : Option Watched) → Calls watched d o →
          stray block es (i + suc (more block o)) zero (laid watched block (i + suc (more block o)) ds) ≡ missed es (i + suc (more block o)) ds →
          stray block es i zero (piece block i d o ++ laid watched block (i + suc (more block o)) ds) ≡ cond (is_entry es (target d))
          (missed es (i + suc (more block o)) ds) (fault NoEntry (i + more block o))
      by None h ih = rw (ih, add-zero)
      by (Some w) h ih = rw (ap target h.1, ← ih) (stray_site block es i w.call w.raised _)

  -- targets that land are no fault, and the other way round
  pub missed_none : (es : List Bool) (i : ℕ) (ds : List Own) → AllByRecursion (λ d. is_entry es (target d) ≡ true) ds → missed es i ds ≡ None
  missed_none es i [] h = refl
  missed_none es i (d ∷ ds) h = rw h.0 (missed_none es (i + size watched block d) ds h.1)

  pub none_missed : (es : List Bool) (i : ℕ) (ds : List Own) → missed es i ds ≡ None → AllByRecursion (λ d. is_entry es (target d) ≡ true) ds
  none_missed es i [] h = tt
  none_missed es i (d ∷ ds) h = by (is_entry es (target d)) refl (none_missed es (i + size watched block d) ds)
    where
      by : (b : Bool) → is_entry es (target d) ≡ b → (missed es (i + size watched block d) ds ≡ None → AllByRecursion (λ d. is_entry es (target d) ≡ true) ds) →
          (is_entry es (target d) ≡ true) × AllByRecursion (λ d. is_entry es (target d) ≡ true) ds
      by true q ih = (q, ih (rw q at h))
      by false q ih = never _ _ (rw q at h)

  pub start_rank : (ds : List Own) (t : ℕ) → get_or (flags ds) t false ≡ true → (start watched block ds (rank (flags ds) t) ≡ t) × (rank (flags ds) t < length ds)
  start_rank [] t h = absurd (false≢true h)
  start_rank (d ∷ ds) zero h = (refl, omega arith)
  start_rank (d ∷ ds) (suc t) h =
      let (s, p, q, r) = rank_pad (more block (watched_call watched d)) (flags ds) t h in
      let (a, b) = start_rank ds s q in
      (rw (r, a) (omega arith), rw r (omega arith))

  pub start_marked : (ds : List Own) (j : ℕ) → j < length ds → get_or (flags ds) (start watched block ds j) false ≡ true
  start_marked [] j h = absurd (omega arith)
  start_marked (d ∷ ds) zero h = refl
  start_marked (d ∷ ds) (suc j) h =
      let n : ℕ = more block (watched_call watched d) in
      let e = get_or-append-add (replicate n false) (flags ds) (start watched block ds j) false in
      rw suc-add (rw (length-replicate n false) at e ∙ start_marked ds j (omega arith))

  -- targets do not move entries
  pub start_retarget : (f : ℕ → ℕ) (ds : List Own) (j : ℕ) → start watched block (map (retarget f) ds) j ≡ start watched block ds j
  start_retarget f [] j = refl
  start_retarget f (d ∷ ds) zero = refl
  start_retarget f (d ∷ ds) (suc j) = rw (more_retarget watched block f d, start_retarget f ds j)

  pub flags_retarget : (f : ℕ → ℕ) (ds : List Own) → flags (map (retarget f) ds) ≡ flags ds
  flags_retarget f [] = refl
  flags_retarget f (d ∷ ds) = rw (more_retarget watched block f d, flags_retarget f ds)
