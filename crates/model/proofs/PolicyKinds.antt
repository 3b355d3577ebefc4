-- A policy file is read by its kind.
use Rattle.std.proofs.Common.{◌≡◌, ℕ, Bool, true, false, leb, List, [], ◌∷◌, length, get_or, Ok, Err, refl}
use Rattle.std.proofs.lemmas.Bool.{ne_eqb}
use Rattle.model.specs.declared.Refusal.TheVariants.{BadPolicyField}
use Rattle.model.specs.Fields.{Read, Part, need, expect, ◌>>=◌, ◌>>◌}
use Rattle.model.specs.Rules.{Rules}
use Rattle.model.specs.Kinds.{Policy, rules, read_policy, policy_kind}

-- a field of another tag is refused
other_tag : (tag : ℕ) (f : List ℕ) → (get_or f 0 0 ≡ tag → ⊥) → expect BadPolicyField tag 0 f ≡ Err (BadPolicyField 0)
unfolding expect
other_tag tag [] h = refl
other_tag tag (t ∷ []) h = refl
other_tag tag (t ∷ l ∷ []) h = refl
other_tag tag (t ∷ l ∷ m ∷ r) h = rw (ne_eqb t tag h)

-- a file of neither kind
pub read_neither : (f : List ℕ) → (get_or f 0 0 ≡ 97 → ⊥) → (get_or f 0 0 ≡ 65 → ⊥) → read_policy f ≡ Err (BadPolicyField 0)
unfolding ◌>>=◌
read_neither f t r = rw (ne_eqb (get_or f 0 0) 97 t) (go (leb (length f) 65535) (expect BadPolicyField 65 0 f) (other_tag 65 f r) _)
  where
    tell : Read Rules → Read Policy
    tell x = x >>= (λ p. Ok (rules p))

    go : (b : Bool) (x : Read Part) → x ≡ Err (BadPolicyField 0) → (k : Part → Read Rules) → tell (need b (BadPolicyField 0) >> (x >>= k)) ≡ Err (BadPolicyField 0)
    go true x e k = rw e
    go false x e k = refl

pub kind_neither : (f : List ℕ) → (get_or f 0 0 ≡ 97 → ⊥) → (get_or f 0 0 ≡ 65 → ⊥) → Err (BadPolicyField 0) ≡ policy_kind f
kind_neither f t r = rw (ne_eqb (get_or f 0 0) 97 t, ne_eqb (get_or f 0 0) 65 r)
