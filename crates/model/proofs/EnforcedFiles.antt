-- Enforcement over files: what check accepts is woven, and what weave writes check accepts.
use Rattle.std.proofs.Common.{◌≡◌, ℕ, ◌+◌, ◌<◌, ◌≤◌, true, ltb, leb, List, [], ◌∷◌, map, length, ℤ, pos, negsuc, Some, None, Ok, Option, sym, refl, ap, ◌∙◌, ap₂, w16}
use lib.ListN.{length-map}
use Rattle.std.specs.List.{AllByRecursion}
use Rattle.std.proofs.ByRecursion.{All-map, All-append, All-weaker}
use Rattle.std.proofs.lemmas.Int.{to_z-of_z}
use Rattle.std.proofs.lemmas.Bool.{ltb-true, leb-true, le-leb, eqb-true, eq-eqb, and_parts, and_from, false≢true}
use Rattle.model.specs.declared.Moment.{Moment}
use Rattle.model.specs.declared.Own.{Own}
use Rattle.model.specs.declared.Test.{Test}
use Rattle.model.specs.declared.Test.TheVariants.{Skip, Skz, Viol, Mset, Mcell, Marg, Store, Op}
use Rattle.model.specs.declared.Instr.{Instr}
use Rattle.model.specs.Policy.{Automaton, Blocks, Showing, Formed, eqZ}
use Rattle.model.specs.Machine.{Applet}
use Rattle.model.specs.Weave.{Plain, plain_applet, woven_applet, target, Aims, Targeted, inner, woven}
use Rattle.model.specs.Words.{table, lands}
use Rattle.model.specs.declared.Refusal.TheVariants.{AreaTooShort}
use Rattle.model.specs.Fields.{◌>>=◌}
use Rattle.model.specs.Reading.{read_applet, Sound, Valid, instr_place}
use Rattle.model.specs.Check.{Fault, method_fault}
use Rattle.model.specs.Files.{loaded, load_file, policy_limits, weave_file, same_cells, fault_at}
use Rattle.model.specs.Files.{check_codes, check_applet, longest, check_file}
use Rattle.model.specs.Enforcement.{Enforced}
use Rattle.model.proofs.Words.{Remade}
use Rattle.model.proofs.RoundTrip.{round}
use Rattle.model.proofs.Accepted.{bound, needed, accepted, err_ok}
use Rattle.model.proofs.Weaving.{then_ok, need_ok, limits_from, writes, written}
use Rattle.model.proofs.CheckMethod.{accepted_woven, accepts_woven}
use Rattle.model.proofs.Simulation.{Offers}
use Rattle.model.proofs.FaithfulRuns.{inside}
use Rattle.model.proofs.Transparent.{mirrored}
use Rattle.model.proofs.WovenValid.{all_unmap, woven_valid}
use Rattle.model.proofs.Words.{operator_back}

-- ---- rows of cells

eqZ_true : (x y : ℤ) → eqZ x y ≡ true → x ≡ y
eqZ_true (pos a) (pos b) h = ap pos (eqb-true a b h)
eqZ_true (pos a) (negsuc b) h = absurd (false≢true h)
eqZ_true (negsuc a) (pos b) h = absurd (false≢true h)
eqZ_true (negsuc a) (negsuc b) h = ap negsuc (eqb-true a b h)

eqZ_refl : (x : ℤ) → eqZ x x ≡ true
eqZ_refl (pos a) = eq-eqb a a refl
eqZ_refl (negsuc a) = eq-eqb a a refl

same_cells_true : (xs ys : List ℤ) → same_cells xs ys ≡ true → xs ≡ ys
same_cells_true [] [] h = refl
same_cells_true [] (y ∷ ys) h = absurd (false≢true h)
same_cells_true (x ∷ xs) [] h = absurd (false≢true h)
same_cells_true (x ∷ xs) (y ∷ ys) h = let p = and_parts _ _ h in ap₂ {C = List ℤ} (λ z zs. z ∷ zs) (eqZ_true x y p.0) (same_cells_true xs ys p.1)

same_cells_refl : (xs : List ℤ) → same_cells xs xs ≡ true
same_cells_refl [] = refl
same_cells_refl (x ∷ xs) = and_from _ _ (eqZ_refl x) (same_cells_refl xs)

-- ---- what reading says of code

sound_remade : (n size i : ℕ) (cs : List Instr) → Sound n size i cs → AllByRecursion Remade cs
sound_remade n size i [] h = tt
sound_remade n size i (c ∷ cs) h = let r = h.0.0 in ((r.entry, r.listed, r.same), sound_remade n size (i + 1) cs h.1)

aimed : (size i : ℕ) (c : Own) → lands size i (Instr.Own c) ≡ true → Aims (λ t. t < size) (target c)
unfolding table
aimed size i (Own.Set x y) h = tt
aimed size i (Own.Mov x y) h = tt
aimed size i (Own.Add x y) h = tt
aimed size i (Own.Sub x y) h = tt
aimed size i (Own.Lt x y) h = tt
aimed size i (Own.Eq x y) h = tt
aimed size i (Own.Get x y) h = tt
aimed size i (Own.Put x y) h = tt
aimed size i (Own.Jump t) h = ltb-true t size (and_parts (ltb t size) true h).0
aimed size i (Own.Brz x t) h = ltb-true t size (and_parts (ltb t size) (ltb (i + 1) size) h).0
aimed size i (Own.Call y) h = tt
aimed size i Own.Ret h = tt
aimed size i (Own.Host k t) h = ltb-true t size (and_parts (ltb t size) (ltb (i + 1) size) h).0
aimed size i Own.End h = tt

sound_aimed : (n size i : ℕ) (cs : List Own) → Sound n size i (map Instr.Own cs) → AllByRecursion (λ c. Aims (λ t. t < size) (target c)) cs
sound_aimed n size i [] h = tt
sound_aimed n size i (c ∷ cs) h = (aimed size i c h.0.1, sound_aimed n size (i + 1) cs h.1)

sound_targeted : (n : ℕ) (cs : List Own) → Sound n (length (map Instr.Own cs)) 0 (map Instr.Own cs) → Targeted cs
sound_targeted n cs h = sound_aimed n (length cs) 0 cs (rw (length-map cs Instr.Own) at h)

-- ---- the code of sites is what its bytes say

formed_remade : (t : Moment) (low high : ℕ) (c : Test) → Formed t low high c → Remade (Instr.Test c)
unfolding table
formed_remade t low high (Skip n) h = (_, refl, refl)
formed_remade t low high (Skz x n) h = (_, refl, refl)
formed_remade t low high Viol h = (_, refl, refl)
formed_remade t low high (Mset x y) h = (_, refl, ap (λ z. Instr.Test (Mset x z)) (to_z-of_z w16 y h.1))
formed_remade t low high (Mcell x y) h = (_, refl, refl)
formed_remade t low high (Marg x y) h = (_, refl, refl)
formed_remade t low high (Store x y) h = (_, refl, refl)
formed_remade t low high (Op x o) h = (_, refl, ap (λ p. Instr.Test (Op x p)) (operator_back o))

host_remade : (k t : ℕ) → Remade (Instr.Own (Own.Host k t))
unfolding table
host_remade k t = (_, refl, refl)

unlock_remade : Remade Instr.Unlock
unfolding table
unlock_remade = (_, refl, refl)

module _ (A : Automaton) (B : Blocks) (S : Offers A B) where
  -- the blocks from cell 0 on
  abbrev blk : ℕ → Moment → List Test
  blk k t = B k t 0

  tests_remade : (k : ℕ) (t : Moment) → AllByRecursion Remade (map Instr.Test (blk k t))
  tests_remade k t = All-map Remade Instr.Test (blk k t)
      (All-weaker (Formed t 0 (0 + A.width)) (λ c. Remade (Instr.Test c)) (formed_remade t 0 (0 + A.width)) (blk k t) (S.shows.formed k t 0))

  site_remade : (i k : ℕ) → AllByRecursion Remade (inner blk i k)
  site_remade i k =
      All-append Remade (map Instr.Test (blk k Moment.Before)) _ (tests_remade k Moment.Before) (
        host_remade k _,
        All-append Remade (map Instr.Test (blk k Moment.After)) _ (tests_remade k Moment.After) (
          unlock_remade,
          (
            formed_remade Moment.Before 0 0 (Skip _) tt,
            All-append Remade (map Instr.Test (blk k Moment.Raised)) _ (tests_remade k Moment.Raised)
                (unlock_remade, tt),
          ),
        ),
      )

  -- ---- whole applets

  fault_none : (at : ℕ → ℕ) (o : Option Fault) (u : Unit {0}) → fault_at at o ≡ Ok u → o ≡ None
  fault_none at None u e = refl
  fault_none at (Some f) u e = absurd (err_ok e)

  codes_woven : (at : ℕ → ℕ → ℕ) (m : ℕ) (cs : List (List Instr)) (u : Unit {0}) → AllByRecursion (AllByRecursion Remade) cs → check_codes A B at m cs ≡ Ok u →
      (ds : List (List Own)) × (map (woven A.watched blk) ds ≡ cs) × AllByRecursion Targeted ds
  codes_woven at m [] u h e = ([], refl, tt)
  codes_woven at m (c ∷ cs) u h e =
      bound _ _ _ e λ v e₁ e₂.
      let w = accepted_woven A.watched blk site_remade c h.0 (fault_none (at m) (method_fault A.watched blk c) v e₁) in
      let rest = codes_woven at (m + 1) cs u h.1 e₂ in
      (w.0 ∷ rest.0, ap₂ {C = List (List Instr)} (λ x xs. x ∷ xs) w.1 rest.1, (w.2, rest.2))

  -- what check accepts is the woven applet of a plain one
  pub accepted_applet : (a : Applet) (u : Unit {0}) → AllByRecursion (AllByRecursion Remade) a.methods → check_applet A B a ≡ Ok u →
      (p : Plain) × (woven_applet A B p ≡ a) × AllByRecursion Targeted p.code
  accepted_applet a u h e =
      needed _ _ _ _ e λ t e.
      let s = sym (same_cells_true a.starts A.starts t) in
      let w = codes_woven (instr_place a) 0 a.methods u h e in
      (record { entries = a.entries; code = w.0 }, λ i. record { entries = a.entries; starts = s i; methods = w.1 i }, w.2)

  woven_codes : (at : ℕ → ℕ → ℕ) (m : ℕ) (cs : List (List Own)) → AllByRecursion Targeted cs → check_codes A B at m (map (woven A.watched blk) cs) ≡ Ok tt
  unfolding ◌>>=◌
  woven_codes at m [] h = refl
  woven_codes at m (c ∷ cs) h = rw (accepts_woven A.watched blk c h.0) (woven_codes at (m + 1) cs h.1)

  -- check accepts the woven applet of a plain one
  pub accepts_applet : (p : Plain) → AllByRecursion Targeted p.code → check_applet A B (woven_applet A B p) ≡ Ok tt
  unfolding ◌>>=◌
  accepts_applet p h = rw (same_cells_refl A.starts) (woven_codes (instr_place (woven_applet A B p)) 0 p.code h)

-- ---- files

load_is : (f : List ℕ) (a : Applet) → read_applet f ≡ Ok a → load_file f ≡ Ok (loaded a)
load_is f a e = then_ok (read_applet f) a (λ a. Ok (loaded a)) e

-- what weave reads and writes, where it names no refusal
pub record Wove (A : Automaton) (B : Blocks) (f g : List ℕ) : Type 0 where
  pub narrow : leb A.width 32 ≡ true
  pub limits : policy_limits A B ≡ Ok tt
  pub plain : Plain
  pub good : Valid (plain_applet plain)
  pub was : read_applet f ≡ Ok (plain_applet plain)
  pub now : read_applet g ≡ Ok (woven_applet A B plain)

module _ (A : Automaton) (B : Blocks) (S : Showing A B) where
  offers : leb A.width 32 ≡ true → Offers A B
  offers t = record { shows = S; narrow = leb-true _ _ t }

  narrow_by : (u : Unit {0}) → policy_limits A B ≡ Ok u → leb A.width 32 ≡ true
  narrow_by u e = needed _ _ _ _ e λ t r. t

  pub wove : (f g : List ℕ) (room : ℕ) → weave_file A B f room ≡ Ok g → Wove A B f g
  wove f g room e =
      let w = written A B f g room e in
      let p = w.0 in
      let h = w.1 in
      let n = le-leb _ _ h.limits.cells in
      let good = (accepted f (plain_applet p) h.reads).1 in
      let better = woven_valid A B (offers n) p good h.methods in
      record {
        narrow = n;
        limits = limits_from A B h.limits;
        plain = p;
        good = good;
        was = h.reads;
        now = ap read_applet (sym w.2) ∙ round (woven_applet A B p) better h.short;
      }

  pub targeted : (p : Plain) → Valid (plain_applet p) → AllByRecursion Targeted p.code
  targeted p good =
      let n = length (plain_applet p).methods in
      All-weaker (λ c. Sound n (length (map Instr.Own c)) 0 (map Instr.Own c)) Targeted (sound_targeted n) p.code
      (all_unmap (λ c. Sound n (length c) 0 c) (λ c. map Instr.Own c) p.code good.sound)

  check_is : (g : List ℕ) (a : Applet) (area : ℕ) → policy_limits A B ≡ Ok tt → read_applet g ≡ Ok a → longest a.methods ≤ area →
      check_file A B g area ≡ check_applet A B a
  check_is g a area l e h = then_ok (policy_limits A B) tt _ l ∙ then_ok (read_applet g) a _ e ∙ need_ok _ AreaTooShort _ (le-leb _ _ h)

  -- what check accepts reads as the woven applet of a plain one
  pub checked : (f : List ℕ) (area : ℕ) → check_file A B f area ≡ Ok tt →
      (p : Plain) × Offers A B × (read_applet f ≡ Ok (woven_applet A B p)) × AllByRecursion Targeted p.code
  checked f area e =
      bound _ _ _ e λ u eu e.
      bound _ _ _ e λ a ea e.
      needed _ _ _ _ e λ r e.
      let O = offers (narrow_by u eu) in
      let n = length a.methods in
      let good = (accepted f a ea).1 in
      let remade = All-weaker (λ c. Sound n (length c) 0 c) (AllByRecursion Remade) (λ c. sound_remade n (length c) 0 c) a.methods good.sound in
      let w = accepted_applet A B O a tt remade e in
      (w.0, O, ea ∙ ap Ok (sym w.1), w.2)

  pub enforced : Enforced A B
  enforced = record {
    inside = λ f area e.
        let w = checked f area e in (
          loaded (woven_applet A B w.0),
          load_is f _ w.2,
          inside (record { A = A; B = B; S = w.1; p = w.0 }),
        );
    writes = writes A B;
    written = written A B;
    accepted = λ f g room area e fits.
        let w = wove f g room e in
        check_is g (woven_applet A B w.plain) area w.limits w.now (fits _ w.now) ∙ accepts_applet A B (offers w.narrow) w.plain
        (targeted w.plain w.good);
    mirrored = λ f g room e.
        let w = wove f g room e in (
          loaded (plain_applet w.plain),
          loaded (woven_applet A B w.plain),
          load_is f _ w.was,
          load_is g _ w.now,
          mirrored
              (record { A = A; B = B; S = offers w.narrow; p = w.plain }),
        );
  }
