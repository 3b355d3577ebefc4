-- Rules and updates as parts of a file that reads.
use Rattle.std.proofs.Common.{◌≡◌, ℕ, ◌+◌, ◌*◌, ◌<◌, List, [], ◌∷◌, ◌++◌, length, get_or, take, drop, Some, None, Option, sym, refl, ap, ◌∙◌, arith, length-append}
use Rattle.std.proofs.lemmas.List.{take_at, drop_at, get_or-take}
use Rattle.model.proofs.PolicyRoundTrip.{short_update, short_rule, length_expr, rule_contents}
use Rattle.model.specs.declared.Moment.{Moment}
use Rattle.model.specs.Policy.{arguments}
use Rattle.model.specs.Rules.{Rule, Update, rule_bytes, update_bytes, expr_bytes, ValidRule, ValidUpdate}
use Rattle.std.specs.List.{flat_map}
use Rattle.rules.specs.Views.{RuleParts, UpdateParts, rule_view, rule_shown, update_view, update_shown, StepsRule, StepsUpdate, Written, WrittenUpdates}
use Rattle.rules.specs.declared.views.RuleView.{RuleView}
use Rattle.rules.specs.declared.views.UpdateView.{UpdateView}
use Rattle.model.specs.Fields.{field}
use Rattle.model.proofs.Words.{word_halves}

-- the announced length of a first field
pub size_of : (b : List ℕ) (tag : ℕ) (c z : List ℕ) → b ≡ field tag c ++ z → (get_or b 1 0 * 256 + get_or b 2 0 ≡ length c) × (length b ≡ 3 + length c + length z)
unfolding field
size_of b tag c z e = (
  ap (λ x. get_or x 1 0 * 256 + get_or x 2 0) e ∙ word_halves (length c),
  let l = length-append c z in let m = ap length e in omega arith,
)

-- its contents, and what stands behind it
pub parts_of : (b : List ℕ) (tag : ℕ) (c z : List ℕ) (n : ℕ) → b ≡ field tag c ++ z → n ≡ length c → (take n (drop 3 b) ≡ c) × (drop (3 + n) b ≡ z)
unfolding field
parts_of b tag c z n e l = (
  ap (λ x. take n (drop 3 x)) e ∙ take_at c z n (sym l),
  let k : length (field tag c) ≡ 3 + n = omega arith in ap (drop (3 + n)) e ∙ drop_at (field tag c) z (3 + n) k,
)

-- a first field that was not there
pub no_front : (b : List ℕ) → length b < 3 → (tag : ℕ) (c z : List ℕ) → b ≡ field tag c ++ z → ⊥
no_front b l tag c z e = let s = size_of b tag c z e in omega arith

-- the announced length, by the first three bytes
pub size_by : (b h : List ℕ) (n : ℕ) → h ≡ take 3 b → n ≡ get_or h 1 0 * 256 + get_or h 2 0 → n ≡ get_or b 1 0 * 256 + get_or b 2 0
size_by b h n e k =
    let p = ap (λ x. get_or x 1 0) e ∙ get_or-take 3 b 1 0 (omega arith) in
    let q = ap (λ x. get_or x 2 0) e ∙ get_or-take 3 b 2 0 (omega arith) in
    omega arith

-- a field that was split off
pub split_as : (c z d y : List ℕ) → ◌≡◌ {A = Option (List ℕ × List ℕ)} (Some (c, z)) (Some (d, y)) → (c ≡ d) × (z ≡ y)
split_as c z d y e = let q : ◌≡◌ {A = List ℕ × List ℕ} (c, z) (d, y) = cc in (ap (λ (p : List ℕ × List ℕ). p.0) q, ap (λ (p : List ℕ × List ℕ). p.1) q)

none_split : (d y : List ℕ) → ◌≡◌ {A = Option (List ℕ × List ℕ)} None (Some (d, y)) → ⊥
none_split d y e = let z : ◌≡◌ {A = ℕ} 0 1 = cc in omega arith

-- no update is written at the front of the bytes, or what is there is shown
module _ (b : List ℕ) where
  abbrev Split : Option (List ℕ × List ℕ) → Type 0
  Split o = (tag : ℕ) (c z : List ℕ) → length c < 65536 → b ≡ field tag c ++ z → o ≡ Some (c, z)

  pub unsplit_update : Split None → (n a : ℕ) (u : Update) (z : List ℕ) → ValidUpdate n a u → b ≡ update_bytes u ++ z → ⊥
  unsplit_update s n a u z v e = let k = short_update n a u v in none_split _ _ (s 69 (u.cell ∷ expr_bytes u.value) z (omega arith) e)

  pub update_split : (d y : List ℕ) → Split (Some (d, y)) → (n a : ℕ) (u : Update) (z : List ℕ) → ValidUpdate n a u → b ≡ update_bytes u ++ z → (d ≡ u.cell ∷ expr_bytes u.value) × (y ≡ z)
  update_split d y s n a u z v e = let k = short_update n a u v in split_as d y _ _ (s 69 (u.cell ∷ expr_bytes u.value) z (omega arith) e)

  pub unsplit_rule : Split None → (n : ℕ) (r : Rule) (z : List ℕ) → ValidRule n r → b ≡ rule_bytes r ++ z → ⊥
  unsplit_rule s n r z v e = none_split _ _ (s 67 (rule_contents r) z (short_rule n r v) e)

  pub rule_split : (d y : List ℕ) → Split (Some (d, y)) → (n : ℕ) (r : Rule) (z : List ℕ) → ValidRule n r → b ≡ rule_bytes r ++ z → (d ≡ rule_contents r) × (y ≡ z)
  rule_split d y s n r z v e = split_as d y _ _ (s 67 (rule_contents r) z (short_rule n r v) e)

pub same_update : (k k' : ℕ) (v v' : List ℕ) → k ≡ k' → v ≡ v' → ◌≡◌ {A = UpdateParts} (record { cell = k; value = v }) (record { cell = k'; value = v' })
same_update k k' v v' a b = rw (a, b)

pub same_rule : (k k' : ℕ) (t t' : Moment) (g g' u u' z z' : List ℕ) → k ≡ k' → t ≡ t' → g ≡ g' → u ≡ u' → z ≡ z' →
    ◌≡◌ {A = RuleParts} (record { call = k; moment = t; guard = g; updates = u; rest = z }) (record { call = k'; moment = t'; guard = g'; updates = u'; rest = z' })
same_rule k k' t t' g g' u u' z z' a b c d e = rw (a, b, c, d, e)

-- the guard of a rule, and its updates, behind its head
pub guard_split : (n : ℕ) (r : Rule) (c d g u : List ℕ) → ValidRule n r → c ≡ rule_contents r → d ≡ drop 2 c → Split d (Some (g, u)) →
    (g ≡ expr_bytes r.guard) × (u ≡ flat_map update_bytes r.updates)
guard_split n r c d g u v e k s =
    let t = length_expr r.guard in
    let w = v.guard.size in
    split_as g u _ _ (s 68 (expr_bytes r.guard) (flat_map update_bytes r.updates) (omega arith) (k ∙ ap (drop 2) e))

pub guard_unsplit : (n : ℕ) (r : Rule) (c d : List ℕ) → ValidRule n r → c ≡ rule_contents r → d ≡ drop 2 c → Split d None → ⊥
guard_unsplit n r c d v e k s =
    let t = length_expr r.guard in
    let w = v.guard.size in
    none_split _ _ (s 68 (expr_bytes r.guard) (flat_map update_bytes r.updates) (omega arith) (k ∙ ap (drop 2) e))

pub no_update_given : (b t : List ℕ) → ((n a : ℕ) (u : Update) (z : List ℕ) → ValidUpdate n a u → b ≡ update_bytes u ++ z → ⊥) → StepsUpdate b None t
no_update_given b t h = record { parts = λ n a u z v e. absurd (h n a u z v e); less = tt }

pub no_rule_given : (b t : List ℕ) → ((n : ℕ) (r : Rule) (z : List ℕ) → ValidRule n r → b ≡ rule_bytes r ++ z → ⊥) → StepsRule b None t
no_rule_given b t h = record { parts = λ n r z v e. absurd (h n r z v e); less = tt }

-- ---- one after the other

-- the first of updates that are written
pub record NextUpdate (n a : ℕ) (us : List Update) (v : UpdateView) (t : List ℕ) : Type 0 where
  pub first : Update
  pub more : List Update
  pub all : us ≡ first ∷ more
  pub valid : ValidUpdate n a first
  pub cell : v.cell ≡ first.cell
  pub value : v.value.now ≡ expr_bytes first.value
  pub written : WrittenUpdates n a t more

pub next_update : (n a : ℕ) (b : List ℕ) (us : List Update) (v : UpdateView) (t : List ℕ) → WrittenUpdates n a b us → StepsUpdate b (Some v) t → NextUpdate n a us v t
next_update n a b [] v t w s = absurd (let e = ap length w.0 in let l = s.less in omega arith)
next_update n a b (u ∷ us) v t w s =
    let p = s.parts n a u (flat_map update_bytes us) w.1.0 w.0 in
    let q : update_view v ≡ update_shown u = cc in
    record {
      first = u;
      more = us;
      all = refl;
      valid = w.1.0;
      cell = ap (λ (q : UpdateParts). q.cell) q;
      value = ap (λ (q : UpdateParts). q.value) q;
      written = (p.1, w.1.1);
    }

pub no_updates : (n a : ℕ) (b : List ℕ) (us : List Update) (t : List ℕ) → WrittenUpdates n a b us → StepsUpdate b None t → us ≡ []
no_updates n a b [] t w s = refl
no_updates n a b (u ∷ us) t w s = let p = s.parts n a u (flat_map update_bytes us) w.1.0 w.0 in let q = p.0 in absurd (let z : ◌≡◌ {A = ℕ} 0 1 = cc in omega arith)

-- the first of rules that are written
pub record NextRule (n : ℕ) (rs : List Rule) (v : RuleView) (t : List ℕ) : Type 0 where
  pub first : Rule
  pub more : List Rule
  pub all : rs ≡ first ∷ more
  pub valid : ValidRule n first
  pub call : v.call ≡ first.call
  pub moment : v.moment ≡ first.moment
  pub guard : v.guard.now ≡ expr_bytes first.guard
  pub updates : WrittenUpdates n (arguments first.moment) v.updates.now first.updates
  pub written : Written n t more

pub next_rule : (n : ℕ) (b : List ℕ) (rs : List Rule) (v : RuleView) (t : List ℕ) → Written n b rs → StepsRule b (Some v) t → NextRule n rs v t
next_rule n b [] v t w s = absurd (let e = ap length w.0 in let l = s.less in omega arith)
next_rule n b (r ∷ rs) v t w s =
    let p = s.parts n r (flat_map rule_bytes rs) w.1.0 w.0 in
    let q : rule_view v ≡ rule_shown r (flat_map rule_bytes rs) = cc in
    record {
      first = r;
      more = rs;
      all = refl;
      valid = w.1.0;
      call = ap (λ (q : RuleParts). q.call) q;
      moment = ap (λ (q : RuleParts). q.moment) q;
      guard = ap (λ (q : RuleParts). q.guard) q;
      updates = (ap (λ (q : RuleParts). q.updates) q, w.1.0.updates);
      written = (sym s.less.0 ∙ ap (λ (q : RuleParts). q.rest) q, w.1.1);
    }

pub no_rules : (n : ℕ) (b : List ℕ) (rs : List Rule) (t : List ℕ) → Written n b rs → StepsRule b None t → rs ≡ []
no_rules n b [] t w s = refl
no_rules n b (r ∷ rs) t w s = let q = s.parts n r (flat_map rule_bytes rs) w.1.0 w.0 in absurd (let z : ◌≡◌ {A = ℕ} 0 1 = cc in omega arith)
