-- Rules for an event, one after the other.
use Rattle.std.proofs.Common.{◌≡◌, ℕ, true, false, cond, ◌&&◌, eqb, List, [], ◌∷◌, ◌++◌, take, drop, ℤ, pos, negsuc, Some, None, Option, refl, ap, ◌∙◌, take-append-drop}
use Rattle.std.proofs.lemmas.Bool.{ne_eqb}
use Rattle.model.specs.declared.Moment.{Moment}
use Rattle.model.specs.Moments.{same_moment}
use Rattle.model.specs.Policy.{Automaton, eqZ}
use Rattle.rules.specs.declared.steps.Acting.{Acting}
use Rattle.rules.specs.declared.steps.Acting.TheVariants.{Unruled, Unmet, Met}
use Rattle.rules.specs.Steps.{Meets}
use Rattle.model.specs.Calls.{row_behind, whole_row}
use Rattle.model.specs.Rules.{Rule, value, updated, acted, rules_of, rules_step}

-- the step by the rules left, where none was met before or some were
abbrev pub going : Acting → List ℤ → List ℤ → List Rule → Option (List ℤ)
going Unruled a c rs = rules_step a c rs
going Unmet a c rs = acted a c rs
going (Met b) a c rs = acted a c rs

pub ne_eqZ : (z : ℤ) → (z ≡ pos 0 → ⊥) → eqZ z (pos 0) ≡ false
ne_eqZ (pos n) h = ne_eqb n 0 (λ e. h (ap pos e))
ne_eqZ (negsuc n) h = refl

-- no rule was found that acts
abbrev pub Sought : Acting → Type 0
Sought Unruled = Unit {0}
Sought Unmet = Unit {0}
Sought (Met b) = ⊥

-- behind the last rule
pub sought : (n k : ℕ) (a c : List ℤ) (rs : List Rule) (f : Acting) → Sought f → rules_step a c rs ≡ going f a c [] → Meets n k a c rs f
sought n k a c rs Unruled s e = e
sought n k a c rs Unmet s e = e
sought n k a c rs (Met b) s e = absurd s

module _ (k : ℕ) (t : Moment) (r : Rule) (rs : List Rule) where
  pub for_it : eqb r.call k && same_moment r.moment t ≡ true → rules_of (r ∷ rs) k t ≡ r ∷ rules_of rs k t
  for_it e = rw e

  pub for_other : eqb r.call k && same_moment r.moment t ≡ false → rules_of (r ∷ rs) k t ≡ rules_of rs k t
  for_other e = rw e

module _ (a c : List ℤ) (r : Rule) (rs : List Rule) where
  going_first : (f : Acting) → going f a c (r ∷ rs) ≡ cond (eqZ (value a c r.guard) (pos 0)) (acted a c rs) (Some (updated a r.updates c))
  going_first Unruled = refl
  going_first Unmet = refl
  going_first (Met b) = refl

  pub going_on : (f : Acting) → eqZ (value a c r.guard) (pos 0) ≡ true → going f a c (r ∷ rs) ≡ acted a c rs
  going_on f e = going_first f ∙ ap (λ x. cond x (acted a c rs) (Some (updated a r.updates c))) e

  pub acts : (f : Acting) → eqZ (value a c r.guard) (pos 0) ≡ false → going f a c (r ∷ rs) ≡ Some (updated a r.updates c)
  acts f e = going_first f ∙ ap (λ x. cond x (acted a c rs) (Some (updated a r.updates c))) e

-- the stepped cells in front of what the row holds past them
pub behind_row : (A : Automaton) (row : List ℤ) (o : Option (List ℤ)) → row_behind (take A.width row) o ++ drop A.width row ≡ row_behind row (whole_row A row o)
behind_row A row None = take-append-drop A.width row
behind_row A row (Some c) = refl
