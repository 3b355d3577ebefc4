-- Rules and updates as parts of a file that reads.
use Rattle.std.specs.Prelude.{◌≡◌, ℕ, ◌+◌, ◌<◌, List, ◌++◌, length, Some, Option, IfSome}
use Rattle.std.specs.Option.{option_map}
use Rattle.std.specs.List.{flat_map, AllByRecursion}
use Rattle.model.specs.declared.Moment.{Moment}
use Rattle.model.specs.Rules.{Rule, Update, rule_bytes, update_bytes, expr_bytes, ValidRule, ValidUpdate}
use Rattle.rules.specs.declared.views.Front.{Front}
use Rattle.rules.specs.declared.views.RuleView.{RuleView}
use Rattle.rules.specs.declared.views.UpdateView.{UpdateView}

-- the contents of a first field, and the bytes behind it
abbrev pub front : Front → List ℕ × List ℕ
front f = (f.contents.now, f.rest.now)

-- the parts of a rule, and the bytes behind it
pub record RuleParts : Type 0 where
  pub call : ℕ
  pub moment : Moment
  pub guard : List ℕ
  pub updates : List ℕ
  pub rest : List ℕ

-- as the code has them
abbrev pub rule_view : RuleView → RuleParts
rule_view v = record { call = v.call; moment = v.moment; guard = v.guard.now; updates = v.updates.now; rest = v.rest.now }

-- those of a rule in front of the bytes z
abbrev pub rule_shown : Rule → List ℕ → RuleParts
rule_shown r z = record { call = r.call; moment = r.moment; guard = expr_bytes r.guard; updates = flat_map update_bytes r.updates; rest = z }

-- the parts of an update
pub record UpdateParts : Type 0 where
  pub cell : ℕ
  pub value : List ℕ

-- as the code has them
abbrev pub update_view : UpdateView → UpdateParts
update_view v = record { cell = v.cell; value = v.value.now }

-- those of an update
abbrev pub update_shown : Update → UpdateParts
update_shown u = record { cell = u.cell; value = expr_bytes u.value }

-- one step over the bytes b, up to the bytes t: a rule that is written there is given, and what is given is shorter than b
pub record StepsRule (b : List ℕ) (o : Option RuleView) (t : List ℕ) : Type 0 where
  pub parts : (n : ℕ) (r : Rule) (z : List ℕ) → ValidRule n r → b ≡ rule_bytes r ++ z → option_map rule_view o ≡ Some (rule_shown r z)
  pub less : IfSome o (λ v. (v.rest.now ≡ t) × (length v.guard.now + length v.updates.now + length t < length b))

-- the same of updates
pub record StepsUpdate (b : List ℕ) (o : Option UpdateView) (t : List ℕ) : Type 0 where
  pub parts : (n a : ℕ) (u : Update) (z : List ℕ) → ValidUpdate n a u → b ≡ update_bytes u ++ z → (option_map update_view o ≡ Some (update_shown u)) × (t ≡ z)
  pub less : IfSome o (λ v. length v.value.now + length t < length b)

-- the bytes of rules of a policy of n cells
abbrev pub Written : ℕ → List ℕ → List Rule → Type 0
Written n b rs = (b ≡ flat_map rule_bytes rs) × AllByRecursion (ValidRule n) rs

-- the bytes of updates in a policy of n cells where the arguments below a may be read
abbrev pub WrittenUpdates : ℕ → ℕ → List ℕ → List Update → Type 0
WrittenUpdates n a b us = (b ≡ flat_map update_bytes us) × AllByRecursion (ValidUpdate n a) us
