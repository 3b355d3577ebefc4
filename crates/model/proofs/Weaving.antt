-- When weave writes: exactly of the files that can be woven.
use Rattle.std.proofs.Common.{◌≡◌, ℕ, zero, suc, ◌+◌, ◌<◌, ◌≤◌, Bool, true, false, ◌&&◌, leb, List, [], ◌∷◌, map, length, Ok, sym, refl, ap, ◌∙◌, ap₂, ⊎_elim, arith}
use Rattle.std.specs.List.{AllByRecursion}
use Rattle.std.proofs.lemmas.List.{nil_from_length}
use Rattle.std.proofs.lemmas.Bool.{leb-true, le-leb, eqb-true, and_parts, and_from, cases_eq}
use Rattle.model.specs.declared.Own.{Own}
use Rattle.model.specs.declared.Instr.{Instr}
use Rattle.model.specs.declared.Refusal.{Refusal}
use Rattle.model.specs.declared.Refusal.TheVariants.{BlockTooLong}
use Rattle.model.specs.declared.Moment.{Moment}
use Rattle.model.specs.Moments.{each_moment}
use Rattle.model.specs.Policy.{Automaton, Blocks}
use Rattle.model.specs.Machine.{Applet}
use Rattle.model.specs.Weave.{Plain, plain_applet, woven_applet}
use Rattle.model.specs.Weaving.{Limited, Weavable, woven_bytes}
use Rattle.model.specs.Fields.{Read, need, ◌>>=◌, ◌>>◌}
use Rattle.model.specs.Reading.{instr_place, method_place}
use Rattle.model.specs.Files.{all_below, policy_limits, plain_code, plain_codes, plain_of, sized, weave_file}
use Rattle.model.proofs.Accepted.{bound, needed, err_ok}

pub then_ok : {X Y : Type 0} (r : Read X) (x : X) (f : X → Read Y) → r ≡ Ok x → (r >>= f) ≡ f x
unfolding ◌>>=◌
then_ok r x f e = rw e

pub need_ok : {Y : Type 0} (t : Bool) (r : Refusal) (s : Read Y) → t ≡ true → (need t r >> s) ≡ s
unfolding ◌>>=◌
need_ok t r s e = rw e

plain_code_is : (at : ℕ → ℕ) (i : ℕ) (cs : List Instr) (ds : List Own) → plain_code at i cs ≡ Ok ds → map Instr.Own ds ≡ cs
plain_code_is at i [] ds e = let z : [] ≡ ds = cc in rw (← z) refl
plain_code_is at i (Instr.Own c ∷ cs) ds e =
    bound _ _ _ e λ es e₁ e₂.
    let z : c ∷ es ≡ ds = cc in
    rw (← z) (ap {B = List Instr} (λ r. Instr.Own c ∷ r) (plain_code_is at (i + 1) cs es e₁))
plain_code_is at i (Instr.Lock k ∷ cs) ds e = absurd (err_ok e)
plain_code_is at i (Instr.Unlock ∷ cs) ds e = absurd (err_ok e)
plain_code_is at i (Instr.Test c ∷ cs) ds e = absurd (err_ok e)

plain_codes_is : (at : ℕ → ℕ → ℕ) (m : ℕ) (cs : List (List Instr)) (ds : List (List Own)) → plain_codes at m cs ≡ Ok ds → map (λ c. map Instr.Own c) ds ≡ cs
plain_codes_is at m [] ds e = let z : [] ≡ ds = cc in rw (← z) refl
plain_codes_is at m (c ∷ cs) ds e =
    bound _ _ _ e λ d e₁ e.
    bound _ _ _ e λ es e₂ e.
    let z : d ∷ es ≡ ds = cc in
    rw (← z) (ap₂ {C = List (List Instr)} (λ x y. x ∷ y) (plain_code_is (at m) 0 c d e₁) (plain_codes_is at (m + 1) cs es e₂))

plain_is : (a : Applet) (p : Plain) → plain_of a ≡ Ok p → plain_applet p ≡ a
plain_is a p e =
    needed _ _ _ _ e λ t e.
    bound _ _ _ e λ cs e₁ e.
    let s = nil_from_length a.starts (eqb-true _ _ t) in
    let c = plain_codes_is (instr_place a) 0 a.methods cs e₁ in
    let z : record { entries = a.entries; code = cs } ≡ p = cc in
    let r = sym s in rw (← z) (λ i. record { entries = a.entries; starts = r i; methods = c i })

sized_is : (at : ℕ → ℕ) (m : ℕ) (cs : List (List Instr)) (u : Unit {0}) → sized at m cs ≡ Ok u → AllByRecursion (λ c. length c ≤ 4096) cs
sized_is at m [] u e = tt
sized_is at m (c ∷ cs) u e = needed _ _ _ _ e λ t e. (leb-true _ _ t, sized_is at (m + 1) cs u e)

need_true : (t : Bool) (r : Refusal) (u : Unit {0}) → need t r ≡ Ok u → t ≡ true
need_true true r u e = refl
need_true false r u e = absurd (err_ok e)

-- ---- and back

sized_from : (at : ℕ → ℕ) (m : ℕ) (cs : List (List Instr)) → AllByRecursion (λ c. length c ≤ 4096) cs → sized at m cs ≡ Ok tt
unfolding ◌>>=◌
sized_from at m [] h = refl
sized_from at m (c ∷ cs) h = rw (le-leb (length c) 4096 h.0) (sized_from at (m + 1) cs h.1)

plain_code_from : (at : ℕ → ℕ) (i : ℕ) (cs : List Own) → plain_code at i (map Instr.Own cs) ≡ Ok cs
unfolding ◌>>=◌
plain_code_from at i [] = refl
plain_code_from at i (c ∷ cs) = rw (plain_code_from at (i + 1) cs)

plain_codes_from : (at : ℕ → ℕ → ℕ) (m : ℕ) (cs : List (List Own)) → plain_codes at m (map (λ c. map Instr.Own c) cs) ≡ Ok cs
unfolding ◌>>=◌
plain_codes_from at m [] = refl
plain_codes_from at m (c ∷ cs) = rw (plain_code_from (at m) 0 c, plain_codes_from at (m + 1) cs)

plain_from : (p : Plain) → plain_of (plain_applet p) ≡ Ok p
unfolding ◌>>=◌
plain_from p = rw (plain_codes_from (instr_place (plain_applet p)) 0 p.code)

all_below_true : (n : ℕ) (p : ℕ → Bool) (k : ℕ) → all_below n p ≡ true → k < n → p k ≡ true
all_below_true zero p k h l = absurd (omega arith)
all_below_true (suc n) p k h l =
    let t = and_parts (p n) (all_below n p) h in
    ⊎_elim (λ e. rw e t.0) (λ e. all_below_true n p k t.1 (omega arith)) (cases_eq k n)

all_below_from : (n : ℕ) (p : ℕ → Bool) → ((k : ℕ) → k < n → p k ≡ true) → all_below n p ≡ true
all_below_from zero p h = refl
all_below_from (suc n) p h = and_from (p n) (all_below n p) (h n (omega arith)) (all_below_from n p (λ k l. h k (omega arith)))

each_moment_true : (p : Moment → Bool) (t : Moment) → each_moment p ≡ true → p t ≡ true
each_moment_true p Moment.Before h = (and_parts (p Moment.Before) (p Moment.After) (and_parts (p Moment.Before && p Moment.After) (p Moment.Raised) h).0).0
each_moment_true p Moment.After h = (and_parts (p Moment.Before) (p Moment.After) (and_parts (p Moment.Before && p Moment.After) (p Moment.Raised) h).0).1
each_moment_true p Moment.Raised h = (and_parts (p Moment.Before && p Moment.After) (p Moment.Raised) h).1

each_moment_from : (p : Moment → Bool) → ((t : Moment) → p t ≡ true) → each_moment p ≡ true
each_moment_from p h = rw (h Moment.Before, h Moment.After, h Moment.Raised)

module _ (A : Automaton) (B : Blocks) where
  -- the block of call k at moment t is within the limit
  abbrev block_fits : ℕ → Moment → Bool
  block_fits k t = leb (length (B k t 0)) 1000

  pub limits_from : Limited A B → policy_limits A B ≡ Ok tt
  limits_from h =
      need_ok (leb A.width 32) _ _ (le-leb _ _ h.cells)
      ∙ ap (λ b. need b BlockTooLong) (all_below_from 64 (λ k. each_moment (block_fits k))
      (λ k lk. each_moment_from (block_fits k) (λ t. le-leb _ _ (h.blocks k t lk))))

  pub limited : (u : Unit {0}) → policy_limits A B ≡ Ok u → Limited A B
  limited u e =
      needed _ _ _ _ e λ w e.
      let b = need_true _ BlockTooLong u e in
      record {
        cells = leb-true _ _ w;
        blocks = λ k t lk. leb-true _ _ (each_moment_true (block_fits k) t (all_below_true 64 (λ k. each_moment (block_fits k)) k b lk));
      }

  pub writes : (f : List ℕ) (area : ℕ) (p : Plain) → Weavable A B f area p → weave_file A B f area ≡ Ok (woven_bytes A B p)
  unfolding ◌>>=◌
  writes f area p h = rw (
    limits_from h.limits,
    h.reads,
    plain_from p,
    sized_from (method_place (plain_applet p)) 0 (woven_applet A B p).methods h.methods,
    le-leb (length (woven_bytes A B p)) 65535 h.short,
    le-leb (length (woven_bytes A B p)) area h.room,
  )

  pub written : (f g : List ℕ) (area : ℕ) → weave_file A B f area ≡ Ok g → (p : Plain) × Weavable A B f area p × (woven_bytes A B p ≡ g)
  written f g area e =
      bound _ _ _ e λ u eu e.
      bound _ _ _ e λ a ea e.
      bound _ _ _ e λ p ep e.
      bound _ _ _ e λ v ev e.
      needed _ _ _ _ e λ t e.
      needed _ _ _ _ e λ r e. (
        p,
        record {
          limits = limited u eu;
          reads = ea ∙ ap Ok (sym (plain_is a p ep));
          methods = sized_is _ 0 _ v ev;
          short = leb-true _ _ t;
          room = leb-true _ _ r;
        },
        cc,
      )
