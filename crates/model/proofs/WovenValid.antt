-- A woven applet is within the limits of files, where weave names no refusal.
use Rattle.std.proofs.Common.{◌≡◌, ℕ, zero, suc, ◌+◌, ◌<◌, ◌≤◌, Bool, true, false, cond, ltb, List, [], ◌∷◌, ◌++◌, map, length, Some, None, sym, refl, ap, ◌∙◌, subst, ap₂, subst₂, add-zero, zero-add, arith, length-append, w16}
use lib.ListN.{length-map}
use mir.Facts.{Fits-of_z}
use Rattle.std.specs.List.{AllByRecursion}
use Rattle.std.proofs.ByRecursion.{All-map}
use Rattle.std.proofs.lemmas.Int.{to_z-of_z}
use Rattle.std.proofs.lemmas.Bool.{ltb-true, lt-ltb, and_parts, and_from}
use Rattle.model.specs.declared.Moment.{Moment}
use Rattle.model.specs.declared.Own.{Own}
use Rattle.model.specs.declared.Test.{Test}
use Rattle.model.specs.declared.Test.TheVariants.{Skip, Skz, Viol, Mset, Mcell, Marg, Store, Op}
use Rattle.model.specs.declared.Instr.{Instr}
use Rattle.model.specs.Policy.{Automaton, Blocks, Formed, reach, Enclosed, arguments}
use Rattle.model.specs.Weave.{Plain, plain_applet, woven_applet, retarget, watched_call, inner, site, behind, piece, more, size, start, laid, woven}
use Rattle.model.specs.Words.{Entry, limit, table, word_of, entry_of, Ranged, lands}
use Rattle.model.specs.Fields.{Within}
use Rattle.model.specs.Reading.{Sound, Valid}
use Rattle.model.proofs.WovenCode.{piece_size, size_retarget}
use Rattle.model.proofs.Simulation.{Offers}
use Rattle.model.proofs.Words.{operator_back, operator_small}

sound_append : (n size i : ℕ) (xs ys : List Instr) → Sound n size i xs → Sound n size (i + length xs) ys → Sound n size i (xs ++ ys)
sound_append n size i [] ys h k = rw (add-zero i) at k
sound_append n size i (x ∷ xs) ys h k = (h.0, sound_append n size (i + 1) xs ys h.1 (subst (λ j. Sound n size j ys) (omega arith) k))

-- ---- the tests of a block

arguments_le : (t : Moment) → arguments t ≤ 5
arguments_le Moment.Before = omega arith
arguments_le Moment.After = omega arith
arguments_le Moment.Raised = omega arith

module _ (n w : ℕ) (t : Moment) (narrow : w ≤ 32) where
  ranged_test : (r : ℕ) (c : Test) → Formed t 0 w c → reach c ≤ r → r < 65536 → Ranged n (Instr.Test c)
  unfolding table
  ranged_test r (Skip k) h e l = record { entry = _; listed = refl; x = omega arith; y = omega arith; same = refl }
  ranged_test r (Skz x k) h e l = record { entry = _; listed = refl; x = h; y = omega arith; same = refl }
  ranged_test r Viol h e l = record { entry = _; listed = refl; x = omega arith; y = omega arith; same = refl }
  ranged_test r (Mset x y) h e l = record {
    entry = _;
    listed = refl;
    x = h.0;
    y = (Fits-of_z h.1).fits;
    same = ap (λ z. Instr.Test (Mset x z)) (to_z-of_z w16 y h.1);
  }
  ranged_test r (Mcell x y) h e l = record { entry = _; listed = refl; x = h.0; y = omega arith; same = refl }
  ranged_test r (Marg x y) h e l = record { entry = _; listed = refl; x = h.0; y = omega (arith, arguments_le t); same = refl }
  ranged_test r (Store x y) h e l = record { entry = _; listed = refl; x = h.0; y = omega arith; same = refl }
  ranged_test r (Op x o) h e l = record { entry = _; listed = refl; x = h; y = operator_small o; same = ap (λ p. Instr.Test (Op x p)) (operator_back o) }

  lands_test : (size j r : ℕ) (c : Test) → j + 1 + r < size → reach c ≤ r → lands size j (Instr.Test c) ≡ true
  unfolding table
  lands_test size j r (Skip k) l h = and_from _ _ (lt-ltb (j + 1 + k) size (omega arith)) (lt-ltb (j + 1) size (omega arith))
  lands_test size j r (Skz x k) l h = and_from _ _ (lt-ltb (j + 1 + k) size (omega arith)) (lt-ltb (j + 1) size (omega arith))
  lands_test size j r Viol l h = lt-ltb (j + 1) size (omega arith)
  lands_test size j r (Mset x y) l h = lt-ltb (j + 1) size (omega arith)
  lands_test size j r (Mcell x y) l h = lt-ltb (j + 1) size (omega arith)
  lands_test size j r (Marg x y) l h = lt-ltb (j + 1) size (omega arith)
  lands_test size j r (Store x y) l h = lt-ltb (j + 1) size (omega arith)
  lands_test size j r (Op x y) l h = lt-ltb (j + 1) size (omega arith)

  block_sound : (size j : ℕ) (b : List Test) → size ≤ 4096 → j + length b < size → AllByRecursion (Formed t 0 w) b → Enclosed b → Sound n size j (map Instr.Test b)
  block_sound size j [] u l h e = tt
  block_sound size j (c ∷ cs) u l h e = (
    (ranged_test (length cs) c h.0 e.0 (omega arith), lands_test size j (length cs) c (omega arith) e.0),
    block_sound size (j + 1) cs u
        (omega arith) h.1 e.1,
  )

-- an instruction in range, by the entry that it has
ranged_at : (n : ℕ) (i : Instr) (e : Entry) → Ranged n i → entry_of i ≡ Some e → ((word_of i).x < limit n e.x) × ((word_of i).y < limit n e.y)
ranged_at n i e r p =
    let q = r.listed in
    let z : r.entry ≡ e = cc in
    subst (λ e. ((word_of i).x < limit n e.x) × ((word_of i).y < limit n e.y)) z (r.x, r.y)

-- ---- a method of n in all, woven into `total` instructions

module _ (n total : ℕ) (few : total ≤ 4096) where
  alone : (j : ℕ) (c : Instr) → Ranged n c → lands total j c ≡ true → Sound n total j (c ∷ [])
  alone j c r l = ((r, l), tt)

  lock_sound : (j k : ℕ) → k < 64 → j + 1 < total → Sound n total j (Instr.Lock k ∷ [])
  unfolding table
  lock_sound j k h l = alone j (Instr.Lock k) (record { entry = _; listed = refl; x = h; y = omega arith; same = refl }) (lt-ltb (j + 1) total l)

  unlock_sound : (j : ℕ) → j + 1 < total → Sound n total j (Instr.Unlock ∷ [])
  unfolding table
  unlock_sound j l = alone j Instr.Unlock (record { entry = _; listed = refl; x = omega arith; y = omega arith; same = refl }) (lt-ltb (j + 1) total l)

  skip_sound : (j r : ℕ) → j + 1 + r < total → Sound n total j (Instr.Test (Skip r) ∷ [])
  unfolding table
  skip_sound j r l = alone j (Instr.Test (Skip r)) (record { entry = _; listed = refl; x = omega arith; y = omega arith; same = refl })
      (and_from _ _ (lt-ltb (j + 1 + r) total l) (lt-ltb (j + 1) total (omega arith)))

  host_sound : (j k t : ℕ) → k < 64 → t < total → j + 1 < total → Sound n total j (Instr.Own (Own.Host k t) ∷ [])
  unfolding table
  host_sound j k t h g l = alone j (Instr.Own (Own.Host k t)) (record { entry = _; listed = refl; x = h; y = omega arith; same = refl })
      (and_from _ _ (lt-ltb t total g) (lt-ltb (j + 1) total l))

  jump_sound : (j t : ℕ) → t < total → Sound n total j (Instr.Own (Own.Jump t) ∷ [])
  unfolding table
  jump_sound j t g = alone j (Instr.Own (Own.Jump t)) (record { entry = _; listed = refl; x = omega arith; y = omega arith; same = refl })
      (and_from _ _ (lt-ltb t total g) refl)

  before : (j k : ℕ) (xs ys : List Instr) → Sound n total j xs → k ≡ j + length xs → Sound n total k ys → Sound n total j (xs ++ ys)
  before j k xs ys h e s = sound_append n total j xs ys h (subst (λ i. Sound n total i ys) e s)

  module _ (watched : ℕ → Bool) (block : ℕ → Moment → List Test)
      (tests : (k : ℕ) (t : Moment) (j : ℕ) → j + length (block k t) < total → Sound n total j (map Instr.Test (block k t))) where
    inner_sound : (i k : ℕ) → k < 64 → i + suc (behind block k) < total → Sound n total (i + 1) (inner block i k)
    inner_sound i k h l =
        let b0 = map Instr.Test (block k Moment.Before) in
        let b1 = map Instr.Test (block k Moment.After) in
        let b2 = map Instr.Test (block k Moment.Raised) in
        let l0 = length-map (block k Moment.Before) Instr.Test in
        let l1 = length-map (block k Moment.After) Instr.Test in
        let l2 = length-map (block k Moment.Raised) Instr.Test in
        let j1 = i + 1 + length (block k Moment.Before) in
        let j2 = j1 + 1 + length (block k Moment.After) in
        let j3 = j2 + 2 + length (block k Moment.Raised) in
        let host = Instr.Own (Own.Host k (i + (length (block k Moment.Before) + (length (block k Moment.After) + 4)))) in
        let skip = Instr.Test (Skip (length (block k Moment.Raised) + 2)) in
        let z2 : List Instr = b2 ++ (Instr.Unlock ∷ []) in
        let z3 : List Instr = Instr.Unlock ∷ skip ∷ z2 in
        let z4 : List Instr = host ∷ b1 ++ z3 in
        before (i + 1) j1 b0 z4 (tests k Moment.Before (i + 1) (omega arith)) (omega arith)
        (before j1 (j1 + 1) (host ∷ []) (b1 ++ z3) (host_sound j1 k _ h (omega arith) (omega arith)) refl
        (before (j1 + 1) j2 b1 z3 (tests k Moment.After (j1 + 1) (omega arith)) (omega arith)
        (before j2 (j2 + 1) (Instr.Unlock ∷ []) (skip ∷ z2) (unlock_sound j2 (omega arith)) refl
        (before (j2 + 1) (j2 + 2) (skip ∷ []) z2 (skip_sound (j2 + 1) (length (block k Moment.Raised) + 2) (omega arith)) (omega arith)
        (before (j2 + 2) j3 b2 (Instr.Unlock ∷ []) (tests k Moment.Raised (j2 + 2) (omega arith)) (omega arith)
        (unlock_sound j3 (omega arith)))))))

    site_sound : (i k t : ℕ) → k < 64 → t < total → i + suc (behind block k) < total → Sound n total i (site block i k t)
    site_sound i k t h g l =
        let e : length (inner block i k) + 1 ≡ behind block k = simp (length-append, length-map) (omega arith) in
        before i (i + 1) (Instr.Lock k ∷ []) (inner block i k ++ (Instr.Own (Own.Jump t) ∷ [])) (lock_sound i k h (omega arith)) refl
        (before (i + 1) (i + behind block k) (inner block i k) (Instr.Own (Own.Jump t) ∷ []) (inner_sound i k h l) (omega arith)
        (jump_sound (i + behind block k) t g))

    -- one plain instruction, at plain index j of a method of `plain` instructions and at woven index i
    module _ (f : ℕ → ℕ) (plain : ℕ) (inside : (t : ℕ) → t < plain → f t < total) where
      on : (i j : ℕ) (c : Instr) → Ranged n c → lands total i c ≡ ltb (i + 1) total → (j + 1 < plain → i + 1 < total) → ltb (j + 1) plain ≡ true →
          Sound n total i (c ∷ [])
      on i j c r e h l = alone i c r (e ∙ lt-ltb (i + 1) total (h (ltb-true (j + 1) plain l)))

      host_piece : (i k t : ℕ) (b : Bool) → k < 64 → t < plain → i + suc (more block (cond b (Some (record { call = k; raised = t })) None)) < total →
          Sound n total i (piece block i (Own.Host k (f t)) (cond b (Some (record { call = k; raised = f t })) None))
      host_piece i k t true h g l = site_sound i k (f t) h (inside t g) l
      host_piece i k t false h g l = host_sound i k (f t) h (inside t g) l

      piece_sound : (i j : ℕ) (c : Own) → Ranged n (Instr.Own c) → lands plain j (Instr.Own c) ≡ true → (j + 1 < plain → i + size watched block c < total) →
          Sound n total i (piece block i (retarget f c) (watched_call watched (retarget f c)))
      unfolding table
      piece_sound i j (Own.Set x y) r l h = on i j _ r refl h l
      piece_sound i j (Own.Mov x y) r l h = on i j _ r refl h l
      piece_sound i j (Own.Add x y) r l h = on i j _ r refl h l
      piece_sound i j (Own.Sub x y) r l h = on i j _ r refl h l
      piece_sound i j (Own.Lt x y) r l h = on i j _ r refl h l
      piece_sound i j (Own.Eq x y) r l h = on i j _ r refl h l
      piece_sound i j (Own.Get x y) r l h = on i j _ r refl h l
      piece_sound i j (Own.Put x y) r l h = on i j _ r refl h l
      piece_sound i j (Own.Call y) r l h = on i j _ r refl h l
      piece_sound i j Own.Ret r l h = alone i _ r refl
      piece_sound i j Own.End r l h = alone i _ r refl
      piece_sound i j (Own.Jump t) r l h = jump_sound i (f t) (inside t (ltb-true t plain (and_parts (ltb t plain) true l).0))
      piece_sound i j (Own.Brz x t) r l h =
          let p = and_parts (ltb t plain) (ltb (j + 1) plain) l in
          let x8 = ranged_at n (Instr.Own (Own.Brz x t)) _ r refl in
          let g = inside t (ltb-true t plain p.0) in
          alone i (Instr.Own (Own.Brz x (f t))) (record { entry = _; listed = refl; x = x8.0; y = omega arith; same = refl })
          (and_from _ _ (lt-ltb (f t) total g) (lt-ltb (i + 1) total (h (ltb-true (j + 1) plain p.1))))
      piece_sound i j (Own.Host k t) r l h =
          let p = and_parts (ltb t plain) (ltb (j + 1) plain) l in
          let x8 = ranged_at n (Instr.Own (Own.Host k t)) _ r refl in
          host_piece i k t (watched k) x8.0 (ltb-true t plain p.0) (h (ltb-true (j + 1) plain p.1))

-- ---- sizes

module _ (watched : ℕ → Bool) (block : ℕ → Moment → List Test) where
  -- how many instructions stand for plain code
  abbrev total_size : List Own → ℕ
  total_size [] = 0
  total_size (c ∷ cs) = size watched block c + total_size cs

  laid_size : (f : ℕ → ℕ) (i : ℕ) (cs : List Own) → length (laid watched block i (map (retarget f) cs)) ≡ total_size cs
  laid_size f i [] = refl
  laid_size f i (c ∷ cs) =
      let d : Own = retarget f c in
      let rest : List Instr = laid watched block (i + size watched block d) (map (retarget f) cs) in
      length-append (piece block i d (watched_call watched d)) rest
      ∙ ap₂ ◌+◌ (piece_size block i d (watched_call watched d) ∙ size_retarget watched block f c) (laid_size f (i + size watched block d) cs)

  start_below : (cs : List Own) (j : ℕ) → j < length cs → start watched block cs j < total_size cs
  start_below [] j h = absurd (omega arith)
  start_below (c ∷ cs) zero h = omega arith
  start_below (c ∷ cs) (suc j) h = let r = start_below cs j (omega arith) in omega arith

  total_pos : (cs : List Own) → 0 < length cs → 0 < total_size cs
  total_pos [] h = h
  total_pos (c ∷ cs) h = omega arith

  module _ (n total : ℕ) (few : total ≤ 4096) (tests : (k : ℕ) (t : Moment) (j : ℕ) → j + length (block k t) < total → Sound n total j (map Instr.Test (block k t)))
      (f : ℕ → ℕ) (plain : ℕ) (inside : (t : ℕ) → t < plain → f t < total) where
    laid_sound : (i j : ℕ) (cs : List Own) → j + length cs ≡ plain → i + total_size cs ≡ total → Sound n plain j (map Instr.Own cs) →
        Sound n total i (laid watched block i (map (retarget f) cs))
    laid_sound i j [] p q h = tt
    laid_sound i j (c ∷ cs) p q h =
        let d : Own = retarget f c in
        let s : size watched block d ≡ size watched block c = size_retarget watched block f c in
        before n total few i (i + size watched block d) (piece block i d (watched_call watched d))
        (laid watched block (i + size watched block d) (map (retarget f) cs))
        (piece_sound n total few watched block tests f plain inside i j c h.0.0 h.0.1 (λ g. let r = total_pos cs (omega arith) in omega arith))
        (ap (λ k. i + k) (sym (piece_size block i d (watched_call watched d))))
        (laid_sound (i + size watched block d) (j + 1) cs (omega arith) (omega arith) h.1)

-- ---- whole applets

pub all_unmap : {X Y : Type 0} (P : Y → Type 0) (g : X → Y) (xs : List X) → AllByRecursion P (map g xs) → AllByRecursion (λ x. P (g x)) xs
all_unmap P g [] h = tt
all_unmap P g (x ∷ xs) h = (h.0, all_unmap P g xs h.1)

all_two : {X : Type 0} (P Q R : X → Type 0) → ((x : X) → P x → Q x → R x) → (xs : List X) → AllByRecursion P xs → AllByRecursion Q xs → AllByRecursion R xs
all_two P Q R k [] h g = tt
all_two P Q R k (x ∷ xs) h g = (k x h.0 g.0, all_two P Q R k xs h.1 g.1)

module _ (A : Automaton) (B : Blocks) (S : Offers A B) (p : Plain) (good : Valid (plain_applet p)) where
  -- the blocks from cell 0 on
  abbrev blk : ℕ → Moment → List Test
  blk k t = B k t 0

  -- the woven code of a method
  abbrev weave : List Own → List Instr
  weave = woven A.watched blk

  woven_size : (c : List Own) → length (weave c) ≡ total_size A.watched blk c
  woven_size c = laid_size A.watched blk (start A.watched blk c) 0 c

  module _ (n : ℕ) (c : List Own) (few : length (weave c) ≤ 4096) where
    tests_sound : (k : ℕ) (t : Moment) (j : ℕ) → j + length (blk k t) < length (weave c) → Sound n (length (weave c)) j (map Instr.Test (blk k t))
    tests_sound k t j l = block_sound n A.width t S.narrow (length (weave c)) j (blk k t) few l (rw zero-add at (S.shows.formed k t 0))
        (S.shows.enclosed k t 0)

    woven_sound : Sound n (length c) 0 (map Instr.Own c) → Sound n (length (weave c)) 0 (weave c)
    woven_sound h =
        laid_sound A.watched blk n (length (weave c)) few tests_sound (start A.watched blk c) (length c)
        (λ t h. rw (woven_size c) (start_below A.watched blk c t h)) 0 0 c (omega arith) (omega (arith, woven_size c)) h

  pub woven_valid : AllByRecursion (λ c. length c ≤ 4096) (woven_applet A B p).methods → Valid (woven_applet A B p)
  woven_valid few =
      let n = length (map (λ c. map Instr.Own c) p.code) in
      let e : n ≡ length (map weave p.code) = length-map p.code (λ c. map Instr.Own c) ∙ sym (length-map p.code weave) in
      let fs = all_unmap (λ c. length c ≤ 4096) weave p.code few in
      let ss = all_unmap (λ c. Within 1 4096 (length c)) (λ c. map Instr.Own c) p.code good.sizes in
      let so = all_unmap (λ c. Sound n (length c) 0 c) (λ c. map Instr.Own c) p.code good.sound in
      record {
        methods = subst (Within 1 32) e good.methods;
        threads = good.threads;
        entered = subst (λ k. AllByRecursion (λ e. e < k) p.entries) e good.entered;
        cells = let a = S.shows.starts in let b = S.narrow in omega arith;
        signed = S.shows.signed;
        sizes = All-map (λ c. Within 1 4096 (length c)) weave p.code
            (all_two (λ c. Within 1 4096 (length (map Instr.Own c))) (λ c. length (weave c) ≤ 4096) (λ c. Within 1 4096 (length (weave c)))
            (λ c a b. let m = length-map c Instr.Own in let q = total_pos A.watched blk c (omega arith) in (omega (arith, woven_size c), b))
            p.code ss fs);
        sound = All-map (λ c. Sound (length (map weave p.code)) (length c) 0 c) weave p.code
            (all_two (λ c. Sound n (length (map Instr.Own c)) 0 (map Instr.Own c)) (λ c. length (weave c) ≤ 4096)
            (λ c. Sound (length (map weave p.code)) (length (weave c)) 0 (weave c))
            (λ c a b. woven_sound (length (map weave p.code)) c b (subst₂ (λ x y. Sound x y 0 (map Instr.Own c)) e (length-map c Instr.Own) a))
            p.code so fs);
      }
