-- Weave, from bytes to bytes.
use Rattle.std.proofs.Common.{◌≡◌, ℕ, ◌≤◌, List, length, take, drop, IfOk, Ok, Err, sym, refl, ap, ◌∙◌, subst, ap₂}
use Rattle.std.proofs.lemmas.List.{take_at}
use Rattle.std.proofs.lemmas.Bool.{leb-true}
use Rattle.model.specs.declared.Refusal.{Refusal}
use Rattle.model.specs.Machine as machine
use Rattle.model.specs.Policy.{Automaton, Blocks, Showing}
use Rattle.model.specs.Fields.{Read, ◌>>=◌}
use Rattle.model.specs.Reading.{read_applet}
use Rattle.model.specs.Files.{policy_limits, weave_file}
use Rattle.model.specs.Areas.{area_after, weave_answer, weave_area}
use Rattle.model.specs.Stripping.{Stripped}
use Rattle.model.proofs.Accepted.{needed, err_ok}
use Rattle.model.proofs.Stripping.{stripping}
use Rattle.weaver.specs.Weaves.{woven_file, woven_answer, woven_area}

pub read_short : (f : List ℕ) (a : machine.Applet) → read_applet f ≡ Ok a → length f ≤ 65535
read_short f a e = needed _ _ _ _ e λ t e. leb-true _ _ t

module _ (A : Automaton) (B : Blocks) (f xs : List ℕ) where
  refused : (x : Refusal) → weave_file A B f (length xs) ≡ Err x → (Err x ≡ weave_answer A B f xs) × (xs ≡ weave_area A B f xs)
  unfolding ◌>>=◌
  refused x e = (rw e, rw e)

  pub limits_refused : (x : Refusal) → policy_limits A B ≡ Err x → (Err x ≡ weave_answer A B f xs) × (xs ≡ weave_area A B f xs)
  unfolding ◌>>=◌
  limits_refused x e = refused x (rw e)

  module _ (limits : policy_limits A B ≡ Ok tt) where
    pub read_refused : (x : Refusal) → read_applet f ≡ Err x → (Err x ≡ weave_answer A B f xs) × (xs ≡ weave_area A B f xs)
    unfolding ◌>>=◌
    read_refused x e = refused x (rw (limits, e))

    whole : (a : machine.Applet) → read_applet f ≡ Ok a → woven_file A B a (length xs) ≡ weave_file A B f (length xs)
    unfolding ◌>>=◌
    whole a e = rw (limits, e)

    pub read_woven : (a : machine.Applet) → read_applet f ≡ Ok a → (woven_answer A B a xs ≡ weave_answer A B f xs) × (woven_area A B a xs ≡ weave_area A B f xs)
    read_woven a e = let w = whole a e in (ap (λ r. r >>= (λ g. Ok (length g))) w, ap (area_after xs) w)

  -- what was written can be stripped again
  pub strips : Showing A B → (r : Read ℕ) (new : List ℕ) → r ≡ weave_answer A B f xs → new ≡ weave_area A B f xs → IfOk r (λ n. Stripped A B f (take n new))
  unfolding ◌>>=◌
  strips S r new e k = by (weave_file A B f (length xs)) refl r e k
    where
      by : (w : Read (List ℕ)) → weave_file A B f (length xs) ≡ w → (r : Read ℕ) → r ≡ (w >>= (λ g. Ok (length g))) → new ≡ area_after xs w → IfOk r (λ n. Stripped A B f (take n new))
      by (Ok g) h (Ok n) e k =
          let z : n ≡ length g = cc in
          let t : take n new ≡ g = ap₂ take z k ∙ take_at g (drop (length g) xs) (length g) refl in
          subst (Stripped A B f) (sym t) ((stripping A B S).undoes f g (length xs) h)
      by (Ok g) h (Err x) e k = absurd (err_ok e)
      by (Err y) h (Ok n) e k = absurd (err_ok (sym e))
      by (Err y) h (Err x) e k = tt
