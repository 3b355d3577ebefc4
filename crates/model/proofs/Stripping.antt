-- Stripping undoes weaving.
use Rattle.std.proofs.Common.{◌≡◌, ℕ, zero, suc, ◌+◌, ◌-◌, ◌<◌, Bool, false, List, [], ◌∷◌, ◌++◌, map, length, get_or, replicate, Some, None, Ok, Option, sym, refl, ap, ◌∙◌, subst, ap₂, append_assoc, suc-add, zero-add, arith, length-append}
use lib.ListN.{length-map}
use Rattle.std.specs.List.{AllByRecursion}
use Rattle.std.proofs.lemmas.List.{get_or_at}
use Rattle.model.specs.declared.Own.{Own}
use Rattle.model.specs.declared.Test.{Test}
use Rattle.model.specs.declared.Instr.{Instr}
use Rattle.model.specs.declared.Moment.{Moment}
use Rattle.model.specs.Policy.{Automaton, Blocks}
use Rattle.model.specs.Weave.{Plain, plain_applet, woven_applet, target, Aims, Targeted, retarget, Watched, watched_call, inner, site}
use Rattle.model.specs.Weave.{piece, more, size, laid, start, woven}
use Rattle.model.specs.Check.{target_of}
use Rattle.model.specs.Stripping.{aim, rank, site_rest, unsited, strip, strip_applet, StrippingUndoes}
use Rattle.model.specs.Reading.{read_applet}
use Rattle.model.proofs.Targets.{Calls, calls, aims_map, retarget_back}
use Rattle.model.proofs.WovenCode.{behind_is}
use Rattle.model.proofs.Accepted.{accepted}
use Rattle.model.proofs.CheckEntries.{flags, flags_retarget, marks_laid}
use Rattle.model.proofs.CheckMethod.{map_back}
use Rattle.model.proofs.EnforcedFiles.{wove, targeted, checked}

rank_past : (n : ℕ) (es : List Bool) (t : ℕ) → rank (replicate n false ++ es) (n + t) ≡ rank es t
rank_past zero es t = rw zero-add
rank_past (suc n) es t = rw suc-add (rank_past n es t)

module _ (B : Blocks) where
  -- the blocks from cell 0 on
  abbrev blk : ℕ → Moment → List Test
  blk k t = B k t 0

  unsited_past : (xs rest : List Instr) (n : ℕ) → n ≡ length xs → unsited B n (xs ++ rest) ≡ unsited B zero rest
  unsited_past [] rest zero p = refl
  unsited_past [] rest (suc n) p = absurd (omega arith)
  unsited_past (x ∷ xs) rest zero p = absurd (omega arith)
  unsited_past (x ∷ xs) rest (suc n) p = unsited_past xs rest n (omega arith)

  unsited_site : (i k t : ℕ) (rest : List Instr) → unsited B zero (site blk i k t ++ rest) ≡ Own.Host k t ∷ unsited B zero rest
  unsited_site i k t rest =
      let n : ℕ = site_rest B k - 1 in
      let b : length (inner blk i k) ≡ n = simp (length-append, length-map) (omega arith) in
      let g : get_or ((inner blk i k ++ (Instr.Own (Own.Jump t) ∷ [])) ++ rest) n Instr.Unlock ≡ Instr.Own (Own.Jump t) =
      rw (append_assoc (inner blk i k)) (get_or_at (inner blk i k) (Instr.Own (Own.Jump t)) rest Instr.Unlock n b) in
      ap₂ (λ u os. Own.Host k (aim (target_of u)) ∷ os) g
      (unsited_past (inner blk i k ++ (Instr.Own (Own.Jump t) ∷ [])) rest (site_rest B k) (behind_is blk i k t))

  module _ (watched : ℕ → Bool) where
    unsited_laid : (i : ℕ) (ds : List Own) → unsited B zero (laid watched blk i ds) ≡ ds
    unsited_laid i [] = refl
    unsited_laid i (d ∷ ds) = by (watched_call watched d) (calls watched d) (unsited_laid (i + size watched blk d) ds)
      where
        by : (o : Option Watched) → Calls watched d o → unsited B zero (laid watched blk (i + suc (more blk o)) ds) ≡ ds →
            unsited B zero (piece blk i d o ++ laid watched blk (i + suc (more blk o)) ds) ≡ d ∷ ds
        by None h ih = ap (λ os. d ∷ os) ih
        by (Some w) h ih = unsited_site i w.call w.raised _ ∙ ap₂ (λ o os. o ∷ os) (sym h.1) ih

    rank_start : (ds : List Own) (j : ℕ) → j < length ds → rank (flags watched blk ds) (start watched blk ds j) ≡ j
    rank_start [] j h = absurd (omega arith)
    rank_start (d ∷ ds) zero h = refl
    rank_start (d ∷ ds) (suc j) h = rw suc-add
        (ap suc (rank_past (more blk (watched_call watched d)) (flags watched blk ds) (start watched blk ds j) ∙ rank_start ds j (omega arith)))

    pub strip_woven : (cs : List Own) → Targeted cs → strip B (woven watched blk cs) ≡ cs
    strip_woven cs h =
        let f : ℕ → ℕ = start watched blk cs in
        let g : ℕ → ℕ = rank (flags watched blk cs) in
        let ds : List Own = map (retarget f) cs in
        rw (marks_laid watched blk 0 ds, unsited_laid 0 ds, flags_retarget watched blk f cs)
        (map_back (retarget g) (retarget f) (λ c. Aims (λ t. t < length cs) (target c))
        (λ c b. retarget_back g f c (aims_map (λ t. t < length cs) (λ t. g (f t) ≡ t) (rank_start cs) (target c) b)) cs h)

    -- the plain code of woven code is unique
    pub woven_unique : (cs ds : List Own) → Targeted cs → Targeted ds → woven watched blk cs ≡ woven watched blk ds → cs ≡ ds
    woven_unique cs ds h k e = sym (strip_woven cs h) ∙ ap (strip B) e ∙ strip_woven ds k

-- ---- whole applets, and files

module _ (A : Automaton) (B : Blocks) where
  strip_applet_woven : (p : Plain) → AllByRecursion Targeted p.code → strip_applet B (woven_applet A B p) ≡ p
  strip_applet_woven p h =
      let e = map_back (strip B) (woven A.watched (λ k t. B k t 0)) Targeted (strip_woven B A.watched) p.code h in
      λ i. record { entries = p.entries; code = e i }

pub stripping : StrippingUndoes
stripping A B S = record {
  undoes = λ f g room e.
      let w = wove A B S f g room e in
      let p = w.plain in
      let s = strip_applet_woven A B p (targeted A B S p w.good) in
      let r : read_applet f ≡ Ok (plain_applet (strip_applet B (woven_applet A B p))) = w.was ∙ ap (λ q. Ok (plain_applet q)) (sym s) in
      record { applet = woven_applet A B p; reads = w.now; starts = refl; stripped = r; back = (accepted f _ r).0 };
  undone = λ g area w e r.
      let c = checked A B S g area e in
      let z : woven_applet A B c.0 ≡ w = let q = c.2 in cc in
      subst (λ x. woven_applet A B (strip_applet B x) ≡ x) z (ap (woven_applet A B) (strip_applet_woven A B c.0 c.3));
}
