-- What is written of a policy within the limits is read back.
use Rattle.std.proofs.Common.{◌≡◌, ℕ, zero, suc, ◌+◌, ◌*◌, ◌/◌, ◌%◌, ◌<◌, ◌≤◌, true, ◌||◌, eqb, ltb, ◌⊎◌, List, [], ◌∷◌, ◌++◌, map, length, Some, Ok, refl, ap, ◌∙◌, ap₂, inl, inr, mul-suc, arith, length-append, w16, to_z, of_z}
use lib.ListN.{length-map}
use Rattle.std.specs.List.{flat_map, AllByRecursion}
use Rattle.std.proofs.ByRecursion.{All-weaker}
use Rattle.std.proofs.lemmas.Int.{to_z-of_z}
use Rattle.std.proofs.lemmas.Bool.{lt-ltb, le-leb, eq-eqb, and_from, or_left, or_right}
use Rattle.model.specs.Words.{flat, quad_of}
use Rattle.model.specs.Fields.{Read, Field, ◌>>=◌, fields, field}
use Rattle.model.specs.Tables.{Row, Table, row_field, read_rows, read_table, row_bytes, write_table, ValidRow, Apart, ValidTable}
use Rattle.model.specs.Policy.{arguments}
use Rattle.model.specs.Rules.{constant, cell, argument, operator, Expr, Update, Rule, Rules, Raw, triples, update_field, rule_field, tokens, both}
use Rattle.model.specs.Rules.{checked, read_updates, read_rule, read_rule_list, read_rules, expr_bytes, update_bytes, rule_bytes}
use Rattle.model.specs.Rules.{write_rules, ValidToken, ValidExpr, ValidUpdate, ValidRule, ValidRules}
use Rattle.model.specs.Moments.{moment_number}
use Rattle.model.proofs.Moments.{moment_back, moment_small}
use Rattle.model.proofs.Places.{length_field}
use Rattle.model.proofs.Words.{word_halves, length_flat}
use Rattle.model.proofs.RoundTrip.{expect_field, within_from, every_from, starts_back}
use Rattle.model.specs.declared.Refusal.TheVariants.{BadPolicyField}
use Rattle.model.specs.Words.{operator_number}
use Rattle.model.proofs.Words.{operator_back, operator_small}

module _ {X Y : Type 0} (tag : ℕ) (one : ℕ → List ℕ → Read X) (bytes : Y → List ℕ) (result : ℕ → Y → X) where
  -- what is kept of fields one behind the other
  abbrev pub results : ℕ → List Y → List X
  results p [] = []
  results p (y ∷ ys) = result p y ∷ results (p + (3 + length (bytes y))) ys

  pub fields_write : (m p : ℕ) (ys : List Y) → length ys ≤ m →
      AllByRecursion (λ y. (length (bytes y) < 65536) × ((q : ℕ) → one q (bytes y) ≡ Ok (result q y))) ys →
      fields m tag one p (flat_map (λ y. field tag (bytes y)) ys) ≡ Ok (results p ys)
  unfolding fields field ◌>>=◌
  fields_write m p [] l h = refl
  fields_write zero p (y ∷ ys) l h = absurd (omega arith)
  fields_write (suc m) p (y ∷ ys) l h = rw (
    expect_field BadPolicyField tag p (bytes y) (flat_map (λ y. field tag (bytes y)) ys) h.0.0,
    h.0.1 p,
    fields_write m (p + (3 + length (bytes y))) ys
        (omega arith) h.1,
  )

-- tables
abbrev row_contents : Row → List ℕ
row_contents r = r.call ∷ moment_number r.moment ∷ r.nexts

-- a row as it is kept between the two passes
abbrev kept_row : ℕ → Row → Field
kept_row p r = record { place = p; contents = row_contents r }

next_state : (n q : ℕ) → (q < n) ⊎ (q ≡ 255) → ltb q n || eqb q 255 ≡ true
next_state n q (inl h) = or_left _ _ (lt-ltb q n h)
next_state n q (inr h) = or_right _ _ (eq-eqb q 255 h)

row_field_write : (n p : ℕ) (r : Row) → ValidRow n r → row_field n p (row_contents r) ≡ Ok (kept_row p r)
unfolding ◌>>=◌
row_field_write n p r h = rw (
  eq-eqb (length (row_contents r)) (2 + n) (omega arith),
  le-leb r.call 63 h.0,
  le-leb (moment_number r.moment) 2 (moment_small r.moment),
  every_from (λ q. ltb q n || eqb q 255) (λ q. (q < n) ⊎ (q ≡ 255)) (next_state n) r.nexts h.2,
)

read_rows_write : (n : ℕ) (known : List Row) (p : ℕ) (rs : List Row) → Apart known rs →
    read_rows known (results 98 (row_field n) row_contents kept_row p rs) ≡ Ok rs
unfolding ◌>>=◌
read_rows_write n known p [] h = refl
read_rows_write n known p (r ∷ rs) h = rw (moment_back r.moment, h.0, read_rows_write n (r ∷ known) (p + (3 + length (row_contents r))) rs h.1)

pub table_round : (t : Table) → ValidTable t → length (write_table t) ≤ 65535 → read_table (write_table t) ≡ Ok t
unfolding ◌>>=◌
table_round t g short =
    let rows : AllByRecursion (λ r. (length (row_contents r) < 65536) × ((q : ℕ) → row_field t.states q (row_contents r) ≡ Ok (kept_row q r)))
    t.rows = All-weaker (ValidRow t.states) _ (λ r h. let s = g.states in (omega arith, λ q. row_field_write t.states q r h))
    t.rows g.rows in
    rw (
      le-leb _ _ short,
      expect_field BadPolicyField 97 0 (1 ∷ t.states ∷ t.start ∷ []) (flat_map row_bytes t.rows) (omega arith),
      within_from 1 16 t.states g.states,
      lt-ltb t.start t.states g.start,
      fields_write 98 (row_field t.states) row_contents kept_row 64 6 t.rows g.few rows,
      read_rows_write t.states [] 6 t.rows g.apart,
    )

-- rules
length_joined : {X : Type 0} (f : X → List ℕ) (k : ℕ) (xs : List X) → AllByRecursion (λ x. length (f x) ≤ k) xs → length (flat_map f xs) ≤ k * length xs
length_joined f k [] h = omega arith
length_joined f k (x ∷ xs) h = let r = length_joined f k xs h.1 in rw (length-append (f x) (flat_map f xs)) (omega (arith, mul-suc k (length xs)))

pub length_expr : (e : Expr) → length (expr_bytes e) ≡ 3 * length e
length_expr [] = refl
length_expr (constant z ∷ e) = let h = length_expr e in omega arith
length_expr (cell i ∷ e) = let h = length_expr e in omega arith
length_expr (argument i ∷ e) = let h = length_expr e in omega arith
length_expr (operator o ∷ e) = let h = length_expr e in omega arith

pub tokens_write : (n a : ℕ) (e : Expr) → AllByRecursion (ValidToken n a) e → tokens n a (expr_bytes e) ≡ Some e
tokens_write n a [] h = refl
tokens_write n a (constant z ∷ e) h = ap₂ (λ y o. both (Some (constant y)) o) (ap (to_z w16) (word_halves (of_z w16 z)) ∙ to_z-of_z w16 z h.0)
    (tokens_write n a e h.1)
tokens_write n a (cell i ∷ e) h = rw (word_halves i, lt-ltb i n h.0, tokens_write n a e h.1)
tokens_write n a (argument i ∷ e) h = rw (word_halves i, lt-ltb i a h.0, tokens_write n a e h.1)
tokens_write n a (operator o ∷ e) h = let k = operator_small o in rw (word_halves (operator_number o), le-leb (operator_number o) 5 (omega arith))
    (ap₂ (λ p r. both (Some (operator p)) r) (operator_back o) (tokens_write n a e h.1))

triples_write : (n a : ℕ) (e : Expr) → ValidExpr n a e → triples 1 32 (expr_bytes e) ≡ true
triples_write n a e h = rw (length_expr e)
    (let k = h.size in and_from _ _ (eq-eqb (3 * length e % 3) 0 (omega arith)) (within_from 1 32 (3 * length e / 3) (omega arith)))

checked_write : (n a p : ℕ) (e : Expr) → ValidExpr n a e → checked p (tokens n a (expr_bytes e)) ≡ Ok e
checked_write n a p e h = rw (tokens_write n a e h.tokens, h.balanced)

-- the contents of tag 69
abbrev pub update_contents : Update → List ℕ
update_contents u = u.cell ∷ expr_bytes u.value

-- an update as it is kept between the two passes
abbrev kept_update : ℕ → Update → Field
kept_update p u = record { place = p; contents = update_contents u }

module _ (n a : ℕ) where
  update_field_write : (p : ℕ) (u : Update) → ValidUpdate n a u → update_field n p (update_contents u) ≡ Ok (kept_update p u)
  unfolding ◌>>=◌
  update_field_write p u h = rw (le-leb 1 (length (update_contents u)) (omega arith), lt-ltb u.cell n h.0, triples_write n a u.value h.1)

  pub short_update : (u : Update) → ValidUpdate n a u → length (update_contents u) ≤ 97
  short_update u h = let l = length_expr u.value in omega arith

  read_updates_write : (p : ℕ) (us : List Update) → AllByRecursion (ValidUpdate n a) us →
      read_updates n a (results 69 (update_field n) update_contents kept_update p us) ≡ Ok us
  unfolding ◌>>=◌
  read_updates_write p [] h = refl
  read_updates_write p (u ∷ us) h = rw (checked_write n a p u.value h.0.1, read_updates_write (p + (3 + length (update_contents u))) us h.1)

-- the contents of tag 67
abbrev pub rule_contents : Rule → List ℕ
rule_contents r = r.call ∷ moment_number r.moment ∷ field 68 (expr_bytes r.guard) ++ flat_map update_bytes r.updates

-- a rule as it is kept between the two passes
abbrev kept_rule : ℕ → ℕ → Rule → Raw
kept_rule n p r = record {
  call = r.call;
  moment = r.moment;
  guard = record { place = p + 5; contents = expr_bytes r.guard };
  updates = results 69 (update_field n) update_contents kept_update (p + 5 + (3 + length (expr_bytes r.guard))) r.updates;
}

module _ (n : ℕ) where
  rule_field_write : (p : ℕ) (r : Rule) → ValidRule n r → rule_field n p (rule_contents r) ≡ Ok (kept_rule n p r)
  unfolding ◌>>=◌
  rule_field_write p r h =
      let a = arguments r.moment in
      let l = length_expr r.guard in
      let us : AllByRecursion (λ u. (length (update_contents u) < 65536) × ((q : ℕ) → update_field n q (update_contents u) ≡ Ok (kept_update q u))) r.updates =
      All-weaker (ValidUpdate n a) _ (λ u k. let s = short_update n a u k in (omega arith, λ q. update_field_write n a q u k)) r.updates h.updates in
      let g = h.guard.size in
      rw (
        le-leb 2 (length (rule_contents r)) (omega arith),
        le-leb r.call 63 h.call,
        le-leb (moment_number r.moment) 2 (moment_small r.moment),
        moment_back r.moment,
        expect_field BadPolicyField 68 (p + 5) (expr_bytes r.guard) (flat_map update_bytes r.updates) (omega arith),
        triples_write n a r.guard h.guard,
        fields_write 69 (update_field n) update_contents kept_update 8 (p + 5 + (3 + length (expr_bytes r.guard))) r.updates h.few us,
      )

  pub short_rule : (r : Rule) → ValidRule n r → length (rule_contents r) < 65536
  short_rule r h =
      let a = arguments r.moment in
      let l = length_expr r.guard in
      let us = length_joined update_bytes 100 r.updates
      (All-weaker (ValidUpdate n a) _ (λ u k. let s = short_update n a u k in rw (length_field 69 (update_contents u)) (omega arith))
      r.updates h.updates) in
      let f = h.few in
      let g = h.guard.size in
      simp (length-append, length_field) (omega arith)

  read_rule_write : (p : ℕ) (r : Rule) → ValidRule n r → read_rule n (kept_rule n p r) ≡ Ok r
  unfolding ◌>>=◌
  read_rule_write p r h = rw (
    checked_write n (arguments r.moment) (p + 5) r.guard h.guard,
    read_updates_write n (arguments r.moment)
        (p + 5 + (3 + length (expr_bytes r.guard))) r.updates h.updates,
  )

  read_rule_list_write : (p : ℕ) (rs : List Rule) → AllByRecursion (ValidRule n) rs →
      read_rule_list n (results 67 (rule_field n) rule_contents (kept_rule n) p rs) ≡ Ok rs
  unfolding ◌>>=◌
  read_rule_list_write p [] h = refl
  read_rule_list_write p (r ∷ rs) h = rw (read_rule_write p r h.0, read_rule_list_write (p + (3 + length (rule_contents r))) rs h.1)

pub rules_round : (p : Rules) → ValidRules p → length (write_rules p) ≤ 65535 → read_rules (write_rules p) ≡ Ok p
unfolding ◌>>=◌
rules_round p g short =
    let n = length p.starts in
    let c = flat (map quad_of p.starts) in
    let l = length_flat (map quad_of p.starts) in
    let e = length-map p.starts quad_of in
    let q = 5 + (3 + length c) in
    let rules : AllByRecursion (λ r. (length (rule_contents r) < 65536) × ((q : ℕ) → rule_field n q (rule_contents r) ≡ Ok (kept_rule n q r)))
    p.rules = All-weaker (ValidRule n) _ (λ r h. (short_rule n r h, λ q. rule_field_write n q r h)) p.rules g.rules in
    rw (
      le-leb _ _ short,
      expect_field BadPolicyField 65 0 (1 ∷ n ∷ []) (field 66 c ++ flat_map rule_bytes p.rules) (omega arith),
      le-leb n 16 g.cells,
      expect_field BadPolicyField 66 5 c (flat_map rule_bytes p.rules) (omega arith),
      eq-eqb (length c) (4 * n) (omega arith),
      fields_write 67 (rule_field n) rule_contents (kept_rule n) 64 q p.rules g.few rules,
      read_rule_list_write n q p.rules g.rules,
      starts_back p.starts g.signed,
      g.blocks,
    )
