-- The policy that refuses every call.
use Rattle.std.proofs.Common.{◌≡◌, ℕ, zero, suc, ◌+◌, ◌<◌, ◌≤◌, true, eqb, ◌⊎◌, List, [], ◌∷◌, ◌++◌, ℤ, None, refl, ap, ◌∙◌, inl, inr, arith}
use Rattle.std.proofs.lemmas.Bool.{and_from, and_left, eq-eqb, ne_eqb, cases_eq}
use Rattle.model.specs.declared.Moment.{Moment}
use Rattle.model.specs.Rules.{refusing_rule, refusing_each, refusing_rules, acted, rules_of, rules_step, rules_automaton}
use Rattle.model.specs.Tables.{RefusesCalls}
use Rattle.rules.proofs.Acts.{for_it, for_other}

module _ (a c : List ℤ) (k : ℕ) where
  -- the rules for a call, whether the first is for it or not
  here : (n j : ℕ) → j ≡ k → rules_of (refusing_each (suc n) j) k Moment.Before ≡ refusing_rule j ∷ rules_of (refusing_each n (j + 1)) k Moment.Before
  here n j e = for_it k Moment.Before (refusing_rule j) (refusing_each n (j + 1)) (and_from (eqb j k) true (eq-eqb j k e) refl)

  elsewhere : (n j : ℕ) → (j ≡ k → ⊥) → rules_of (refusing_each (suc n) j) k Moment.Before ≡ rules_of (refusing_each n (j + 1)) k Moment.Before
  elsewhere n j e = for_other k Moment.Before (refusing_rule j) (refusing_each n (j + 1)) (and_left (eqb j k) true (ne_eqb j k e))

  -- none of them acts
  none_acts : (n j : ℕ) → acted a c (rules_of (refusing_each n j) k Moment.Before) ≡ None
  none_acts zero j = refl
  none_acts (suc n) j = go (cases_eq j k) (none_acts n (j + 1))
    where
      go : (j ≡ k) ⊎ (j ≡ k → ⊥) → acted a c (rules_of (refusing_each n (j + 1)) k Moment.Before) ≡ None → acted a c (rules_of (refusing_each (suc n) j) k Moment.Before) ≡ None
      go (inl e) ih = ap (acted a c) (here n j e) ∙ ih
      go (inr e) ih = ap (acted a c) (elsewhere n j e) ∙ ih

  -- and there is one for each call from j on
  one_refuses : (n j : ℕ) → j ≤ k → k < j + n → rules_step a c (rules_of (refusing_each n j) k Moment.Before) ≡ None
  one_refuses zero j l h = absurd (omega arith)
  one_refuses (suc n) j l h = go (cases_eq j k) (one_refuses n (j + 1))
    where
      go : (j ≡ k) ⊎ (j ≡ k → ⊥) → (j + 1 ≤ k → k < j + 1 + n → rules_step a c (rules_of (refusing_each n (j + 1)) k Moment.Before) ≡ None) →
          rules_step a c (rules_of (refusing_each (suc n) j) k Moment.Before) ≡ None
      go (inl e) ih = ap (rules_step a c) (here n j e) ∙ none_acts n (j + 1)
      go (inr e) ih = ap (rules_step a c) (elsewhere n j e) ∙ ih (omega arith) (omega arith)

pub refuses_calls : RefusesCalls (rules_automaton refusing_rules)
unfolding refusing_rules
refuses_calls k args answer c h = one_refuses (args ++ (answer ∷ [])) c k 64 0 (omega arith) (omega arith)
