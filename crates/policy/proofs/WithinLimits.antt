-- The limits of a policy.
use Rattle.std.proofs.Common.{◌≡◌, ℕ, zero, suc, ◌+◌, ◌<◌, ◌≤◌, Bool, true, false, cond, ◌&&◌, leb, min, ◌⊎◌, [], ◌∷◌, length, Ok, Err, refl, sym, ap, ap₂, ◌∙◌, inl, inr, add-zero, zero-add, arith}
use Rattle.std.proofs.lemmas.Bool.{le-leb, lt-leb, cases_lt}
use Rattle.std.proofs.Math.Bool.{and-true}
use Rattle.std.specs.List.{list_all, range_with_len}
use Rattle.model.specs.declared.Moment.{Moment}
use Rattle.model.specs.declared.Refusal.TheVariants.{BlockTooLong, TooManyCells}
use Rattle.model.specs.Policy.{Automaton, Blocks}
use Rattle.model.specs.Moments.{each_moment}
use Rattle.model.specs.Fields.{need, ◌>>=◌}
use Rattle.model.specs.Files.{all_below, policy_limits}

-- a length as it is told, in two bytes, is as short as the length
pub told_short : (n : ℕ) → leb (min n 65535) 1000 ≡ leb n 1000
told_short n = go (cases_lt n 1001)
  where
    go : (n < 1001) ⊎ (1001 ≤ n) → leb (min n 65535) 1000 ≡ leb n 1000
    go (inl h) = le-leb (min n 65535) 1000 (omega arith) ∙ sym (le-leb n 1000 (omega arith))
    go (inr h) = lt-leb (min n 65535) 1000 (omega arith) ∙ sym (lt-leb n 1000 (omega arith))

-- a test of the three moments
pub each_is : (p : Moment → Bool) → list_all p (Moment.Before ∷ Moment.After ∷ Moment.Raised ∷ []) ≡ each_moment p
each_is p = go (p Moment.Before) (p Moment.After) (p Moment.Raised)
  where
    go : (a b c : Bool) → (a && (b && (c && true))) ≡ (a && b && c)
    go true true c = and-true c
    go true false c = refl
    go false b c = refl

-- a test of the numbers below n
pub all_below_is : (p : ℕ → Bool) (n : ℕ) → list_all p (range_with_len 0 n) ≡ all_below n p
all_below_is p zero = refl
all_below_is p (suc n) = last 0 n ∙ ap₂ (λ a b. a && b) (ap p (zero-add n)) (all_below_is p n)
  where
    swap : (a b c : Bool) → (a && (b && c)) ≡ (b && (a && c))
    swap true b c = refl
    swap false true c = refl
    swap false false c = refl

    last : (a n : ℕ) → list_all p (range_with_len a (suc n)) ≡ (p (a + n) && list_all p (range_with_len a n))
    last a zero = ap (λ k. p k && true) (sym (add-zero a))
    last a (suc n) = ap (λ b. p a && b) (last (a + 1) n) ∙ swap (p a) (p (a + 1 + n)) (list_all p (range_with_len (a + 1) n)) ∙
        ap (λ k. p k && (p a && list_all p (range_with_len (a + 1) n))) (omega arith)

module _ (A : Automaton) (B : Blocks) where
  pub limits_wide : 32 < A.width → Err TooManyCells ≡ policy_limits A B
  unfolding ◌>>=◌
  limits_wide h = rw (lt-leb A.width 32 h)

  pub limits_by : A.width ≤ 32 → (b : Bool) → b ≡ list_all (λ k. each_moment (λ t. leb (length (B k t 0)) 1000)) (range_with_len 0 64) →
      cond b (Ok tt) (Err BlockTooLong) ≡ policy_limits A B
  unfolding ◌>>=◌
  limits_by h b e =
      let y : b ≡ all_below 64 (λ k. each_moment (λ t. leb (length (B k t 0)) 1000)) = e ∙ all_below_is (λ k. each_moment (λ t. leb (length (B k t 0)) 1000)) 64 in
      rw (le-leb A.width 32 h) (go (all_below 64 (λ k. each_moment (λ t. leb (length (B k t 0)) 1000))) y)
    where
      go : (c : Bool) → b ≡ c → cond b (Ok tt) (Err BlockTooLong) ≡ (need c BlockTooLong)
      go true e = rw e
      go false e = rw e
