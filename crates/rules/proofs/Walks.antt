-- A test of each of the rules, one after the other.
use Rattle.std.proofs.Common.{◌≡◌, ℕ, Bool, true, false, ◌&&◌, List, [], ◌∷◌, Some, None, Option, MatchOption, sym, ap, ◌∙◌, subst}
use denote.Param.Members.{Mut, Called}
use Rattle.std.specs.List.{FoldsTo}
use Rattle.std.specs.Iterator.{YieldsThen}
use Rattle.model.specs.Fields.{every}
use Rattle.model.specs.Rules.{Rule}
use Rattle.rules.specs.declared.views.RuleView.{RuleView}
use Rattle.rules.specs.declared.views.RuleViews.{RuleViews}
use Rattle.rules.specs.Views.{StepsRule, Written}
use Rattle.rules.proofs.Shown.{next_rule, no_rules}

-- a step over the rules, as the iterator makes it
abbrev pub steps : RuleViews → Option RuleView → RuleViews → Type 0
steps s o t = StepsRule s.0.now o t.0.now

module _ {F : Type 0} (g : Mut F (RuleView × Unit {0}) Bool) (n : ℕ) (test : Rule → Bool) (f : F) (result : Bool) (u : RuleViews) where
  -- what a test of a rule tells
  abbrev Tells : Type 0
  Tells = (x : RuleView) (b : Bool) (q : F) (r : Rule) → x.call ≡ r.call → x.moment ≡ r.moment → Called g f (x, tt) b q → (q ≡ f) × (b ≡ test r)

  -- what the tests ended with
  abbrev Ended : Option RuleView → F → Type 0
  Ended o j = MatchOption o (result ≡ true) (λ x. (result ≡ false) × ((h : F) × Called g j (x, tt) false h))

  last : Tells → (s : RuleViews) (vs : List Rule) (o : Option RuleView) → Written n s.0.now vs → steps s o u → Ended o f → result ≡ every test vs
  last tells s vs None w k e = e ∙ sym (ap (every test) (no_rules n s.0.now vs u.0.now w k))
  last tells s vs (Some x) w k e =
      let y = next_rule n s.0.now vs x u.0.now w k in
      let b = (tells x false e.1.0 y.first y.call y.moment e.1.1).1 in
      e.0 ∙ ap (λ t. t && every test y.more) b ∙ sym (ap (every test) y.all)

  walk : Tells → (s : RuleViews) (vs : List Rule) (xs : List RuleView) (o : Option RuleView) (j : F) → Written n s.0.now vs → YieldsThen steps s xs o u →
      FoldsTo (λ p x q. Called g p (x, tt) true q) f xs j → Ended o j → result ≡ every test vs
  walk tells s vs [] o j w k h e = last tells s vs o w (subst (λ z. steps z o u) (sym k.1) k.2) (subst (Ended o) (sym h) e)
  walk tells s vs (x ∷ xs) o j w k h e =
      let y = next_rule n s.0.now vs x k.1.0.0.now w k.1.1 in
      let m = tells x true h.0 y.first y.call y.moment h.1 in
      let i = walk tells k.1.0 y.more xs o j y.written (k.0, k.1.2, k.2) (subst (λ z. FoldsTo (λ p x q. Called g p (x, tt) true q) z xs j) m.0 h.2) e in
      i ∙ ap (λ t. t && every test y.more) m.1 ∙ sym (ap (every test) y.all)

pub all_rules : {F : Type 0} {g : Mut F (RuleView × Unit {0}) Bool} (n : ℕ) (test : Rule → Bool) (f : F) (result : Bool) (u s : RuleViews) (vs : List Rule) → Written n s.0.now vs →
    (xs : List RuleView) × (o : Option RuleView) × (j : F) × YieldsThen steps s xs o u × FoldsTo (λ p x q. Called g p (x, tt) true q) f xs j
    × MatchOption o (result ≡ true) (λ x. (result ≡ false) × ((h : F) × Called g j (x, tt) false h)) →
    ((x : RuleView) (b : Bool) (q : F) (r : Rule) → x.call ≡ r.call → x.moment ≡ r.moment → Called g f (x, tt) b q → (q ≡ f) × (b ≡ test r)) → result ≡ every test vs
all_rules {F} {g} n test f result u s vs w k tells = walk g n test f result u tells s vs k.0 k.1 k.2 w k.3 k.4 k.5
