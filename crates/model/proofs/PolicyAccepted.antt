-- What is read as a policy was written so, and is within the limits.
use Rattle.std.proofs.Common.{◌≡◌, ℕ, zero, suc, ◌+◌, ◌*◌, ◌/◌, ◌%◌, ◌<◌, ◌≤◌, Bool, true, false, cond, ◌&&◌, ◌||◌, eqb, ltb, leb, ◌⊎◌, List, [], ◌∷◌, ◌++◌, map, length, get_or, drop, Some, None, Ok, Option, sym, refl, ap, ◌∙◌, ap₂, inl, inr, arith, length-drop, w16, to_z}
use lib.ListN.{length-map}
use borrow.Author.Gap.{read_sfits}
use Rattle.std.specs.List.{flat_map, AllByRecursion}
use Rattle.std.proofs.ByRecursion.{All-drop}
use Rattle.std.proofs.lemmas.Int.{of_z-to_z}
use Rattle.std.proofs.lemmas.Bool.{ltb-true, leb-true, eqb-true, and_parts, or_cases, cond_both, false≢true}
use Rattle.model.specs.Words.{word, high, low, quads, signed_of}
use Rattle.model.specs.Fields.{Bytes, Read, Field, refuse, within, every, next, fields, tested, field}
use Rattle.model.specs.Tables.{Row, Table, row_field, row_in, read_rows, read_table, row_bytes, write_table, ValidRow, Apart, ValidTable}
use Rattle.model.specs.Policy.{arguments}
use Rattle.model.specs.Rules.{Token, constant, cell, argument, operator, Expr, Update, Rule, Rules, Raw, triples, update_field, rule_field, token}
use Rattle.model.specs.Rules.{tokens, both, balanced, checked, read_updates, read_rule, read_rule_list, read_rules, token_bytes, expr_bytes}
use Rattle.model.specs.Rules.{update_bytes, rule_bytes, write_rules, ValidToken, ValidExpr, ValidUpdate, ValidRule, ValidRules}
use Rattle.model.proofs.Words.{high_word, low_word, length_flat, flat_quads}
use Rattle.model.specs.Moments.{moment_number, moment_of}
use Rattle.model.proofs.Moments.{moment_there}
use Rattle.std.proofs.lemmas.Option.{none-some}
use Rattle.model.proofs.Accepted.{ByteField, starts_signed, err_ok, bound, needed, within_true, every_true, met, whole_quads, starts_is, two_bytes}
use Rattle.model.specs.declared.Refusal.TheVariants.{BadPolicyField, BadExpression}
use Rattle.model.specs.Words.{operator_of}
use Rattle.model.proofs.Words.{operator_there}

pub tested_is : (t : Bool) (p : ℕ) (c : List ℕ) (x : Field) → tested t p c ≡ Ok x → (t ≡ true) × (record { place = p; contents = c } ≡ x)
tested_is t p c x e = needed _ _ _ _ e λ h e. (h, cc)

module _ {X : Type 0} (tag : ℕ) (one : ℕ → List ℕ → Read X) (bytes : X → List ℕ) (Q P : X → Type 0)
    (k : (p : ℕ) (c : List ℕ) (x : X) → one p c ≡ Ok x → (Bytes c → (bytes x ≡ c) × Q x) × P x) where
  pub fields_is : (m p : ℕ) (r : List ℕ) (xs : List X) → fields m tag one p r ≡ Ok xs →
      (Bytes r → (flat_map (λ x. field tag (bytes x)) xs ≡ r) × AllByRecursion Q xs) × (length xs ≤ m) × AllByRecursion P xs
  unfolding fields
  fields_is m p [] xs e = let z : [] ≡ xs = cc in rw (← z) (λ h. (refl, tt), omega arith, tt)
  fields_is zero p (b ∷ r) xs e = bound _ _ _ e λ x e₁ e₂. absurd (err_ok e₂)
  fields_is (suc m) p (b ∷ r) xs e =
      bound _ _ _ e λ x e₁ e.
      bound _ _ _ e λ y e₂ e.
      bound _ _ _ e λ ys e₃ e.
      let w = met BadPolicyField tag p (b ∷ r) x e₁ in
      let o = k p x.contents y e₂ in
      let rest = fields_is m (next x) x.rest ys e₃ in
      let z : y ∷ ys ≡ xs = cc in
      rw (← z) (
        λ h.
            let i = o.0 (w.contents h) in
            let j = rest.0 (w.rest h) in
            (ap₂ (λ c d. field tag c ++ d) i.0 j.0 ∙ w.split h, (i.1, j.1)),
        omega (arith, rest.1),
        (o.1, rest.2),
      )

at_two : (c : List ℕ) → 2 ≤ length c → get_or c 0 0 ∷ get_or c 1 0 ∷ drop 2 c ≡ c
at_two [] h = absurd (omega arith)
at_two (x ∷ []) h = absurd (omega arith)
at_two (x ∷ y ∷ c) h = refl

three_bytes : (c : List ℕ) → length c ≡ 3 → get_or c 0 0 ≡ 1 → 1 ∷ get_or c 1 0 ∷ get_or c 2 0 ∷ [] ≡ c
three_bytes [] e h = absurd (omega arith)
three_bytes (x ∷ []) e h = absurd (omega arith)
three_bytes (x ∷ y ∷ []) e h = absurd (omega arith)
three_bytes (x ∷ y ∷ z ∷ []) e h = ap {B = List ℕ} (λ t. t ∷ y ∷ z ∷ []) (sym h)
three_bytes (x ∷ y ∷ z ∷ u ∷ r) e h = absurd (omega arith)

pub all_four : (a b c d : Bool) → a && b && c && d ≡ true → (a ≡ true) × (b ≡ true) × (c ≡ true) × (d ≡ true)
all_four true b c d e = let p = and_parts (b && c) d e in let q = and_parts b c p.0 in (refl, q.0, q.1, p.1)
all_four false b c d e = absurd (false≢true e)

-- tables
module _ (n : ℕ) where
  -- a field that holds a row
  abbrev Rowed : Field → Type 0
  Rowed x = (row_bytes (row_in x.contents) ≡ field 98 x.contents) × ValidRow n (row_in x.contents)

  row_field_is : (p : ℕ) (c : List ℕ) (x : Field) → row_field n p c ≡ Ok x → (Bytes c → (x.contents ≡ c) × Unit {0}) × Rowed x
  row_field_is p c x e =
      let t = tested_is _ _ _ _ e in
      let a = all_four (eqb (length c) (2 + n)) (leb (get_or c 0 0) 63) (leb (get_or c 1 0) 2) (every (λ q. ltb q n || eqb q 255) (drop 2 c)) t.0 in
      let l = eqb-true _ _ a.0 in
      let m = ap {B = List ℕ} (λ t. get_or c 0 0 ∷ t ∷ drop 2 c) (moment_there (get_or c 1 0) (leb-true _ _ a.2)) ∙ at_two c (omega arith) in
      let q = every_true (λ q. ltb q n || eqb q 255) (λ q. (q < n) ⊎ (q ≡ 255))
      (λ q h. elim (or_cases _ _ h) [ inl u ↦ inl (ltb-true _ _ u) | inr v ↦ inr (eqb-true _ _ v) ]) (drop 2 c) a.3 in
      rw (← t.1) (λ b. (refl, tt), (ap (field 98) m, (leb-true _ _ a.1, rw (length-drop 2 c) (omega arith), q)))

read_rows_is : (n : ℕ) (known : List Row) (xs : List Field) (rs : List Row) → AllByRecursion (Rowed n) xs → read_rows known xs ≡ Ok rs →
    (flat_map row_bytes rs ≡ flat_map (λ x. field 98 x.contents) xs) × (length rs ≡ length xs) × AllByRecursion (ValidRow n) rs × Apart known rs
read_rows_is n known [] rs h e = let z : [] ≡ rs = cc in rw (← z) (refl, refl, tt, tt)
read_rows_is n known (x ∷ xs) rs h e =
    needed _ _ _ _ e λ t e.
    bound _ _ _ e λ ss e₁ e.
    let rest = read_rows_is n (row_in x.contents ∷ known) xs ss h.1 e₁ in
    let z : row_in x.contents ∷ ss ≡ rs = cc in
    rw (← z) (ap₂ (λ c d. c ++ d) h.0.0 rest.0, ap suc rest.1, (h.0.1, rest.2), (t, rest.3))

pub table_accepted : (f : List ℕ) (t : Table) → read_table f ≡ Ok t → (Bytes f → write_table t ≡ f) × ValidTable t
table_accepted f t e =
    needed _ _ _ _ e λ short e.
    bound _ _ _ e λ h eh e.
    needed _ _ _ _ e λ th e.
    bound _ _ _ e λ xs ex e.
    bound _ _ _ e λ rs er e.
    let n = get_or h.contents 1 0 in
    let s = get_or h.contents 2 0 in
    let mh = met BadPolicyField 97 0 f h eh in
    let a = all_four (eqb (length h.contents) 3) (eqb (get_or h.contents 0 0) 1) (within 1 16 n) (ltb s n) th in
    let c : 1 ∷ n ∷ s ∷ [] ≡ h.contents = three_bytes h.contents (eqb-true _ _ a.0) (eqb-true _ _ a.1) in
    let fs = fields_is 98 (row_field n) (λ x. x.contents) (λ x. Unit {0}) (Rowed n) (row_field_is n) 64 _ h.rest xs ex in
    let rr = read_rows_is n [] xs rs fs.2 er in
    let b : Table = record { states = n; start = s; rows = rs } in
    let z : b ≡ t = cc in
    let w : Bytes f → write_table b ≡ f = (λ k. rw (c, rr.0, (fs.0 (mh.rest k)).0) (mh.split k)) in
    rw (← z) (
      w,
      record {
        states = within_true 1 16 n a.2;
        start = ltb-true s n a.3;
        few = rw rr.1 fs.1;
        rows = rr.2;
        apart = rr.3;
      },
    )

-- rules
some_if : {A : Type 0} (b : Bool) (x y : A) → cond b (Some x) None ≡ Some y → (b ≡ true) × (x ≡ y)
some_if true x y e = (refl, cc)
some_if false x y e = absurd (none-some _ e)

token_is : (n a k y : ℕ) (t : Token) → token n a k y ≡ Some t → (y < 65536 → token_bytes t ≡ k ∷ high y ∷ low y ∷ []) × ValidToken n a t
token_is n a zero y t e = let z : constant (to_z w16 y) ≡ t = cc in rw (← z)
    (λ h. ap {B = List ℕ} (λ v. 0 ∷ high v ∷ low v ∷ []) (of_z-to_z w16 y h), read_sfits w16 y)
token_is n a (suc zero) y t e = let s = some_if (ltb y n) (cell y) t e in rw (← s.1) (λ h. refl, ltb-true y n s.0)
token_is n a (suc (suc zero)) y t e = let s = some_if (ltb y a) (argument y) t e in rw (← s.1) (λ h. refl, ltb-true y a s.0)
token_is n a (suc (suc (suc zero))) y t e = let s = some_if (leb y 5) (operator (operator_of y)) t e in let l = leb-true y 5 s.0 in rw (← s.1)
    (λ h. ap {B = List ℕ} (λ v. 3 ∷ high v ∷ low v ∷ []) (operator_there y (omega arith)), tt)
token_is n a (suc (suc (suc (suc k)))) y t e = absurd (none-some _ e)

both_is : (o : Option Token) (u : Option Expr) (e : Expr) → both o u ≡ Some e → (t : Token) × (ts : Expr) × (o ≡ Some t) × (u ≡ Some ts) × (t ∷ ts ≡ e)
both_is None u e h = absurd (none-some _ h)
both_is (Some t) None e h = absurd (none-some _ h)
both_is (Some t) (Some ts) e h = (t, ts, refl, refl, cc)

tokens_is : (n a : ℕ) (c : List ℕ) (e : Expr) → tokens n a c ≡ Some e → (Bytes c → expr_bytes e ≡ c) × (length c ≡ 3 * length e) × AllByRecursion (ValidToken n a) e
tokens_is n a [] e h = let z : [] ≡ e = cc in rw (← z) (λ b. refl, refl, tt)
tokens_is n a (k ∷ []) e h = absurd (none-some _ h)
tokens_is n a (k ∷ x ∷ []) e h = absurd (none-some _ h)
tokens_is n a (k ∷ x ∷ y ∷ r) e h =
    let s = both_is _ _ _ h in
    let t = token_is n a k (word x y) s.0 s.2 in
    let rest = tokens_is n a r s.1 s.3 in
    let w : Bytes (k ∷ x ∷ y ∷ r) → token_bytes s.0 ≡ k ∷ x ∷ y ∷ [] = (λ b.
    t.0 (omega arith) ∙ ap₂ {C = List ℕ} (λ u v. k ∷ u ∷ v ∷ []) (high_word x y b.1.1.0) (low_word x y b.1.1.0)) in
    rw (← s.4) (λ b. ap₂ (λ u v. u ++ v) (w b) (rest.0 b.1.1.1), omega (arith, rest.1), (t.1, rest.2))

checked_is : (n a p : ℕ) (c : List ℕ) (e : Expr) → triples 1 32 c ≡ true → checked p (tokens n a c) ≡ Ok e → (Bytes c → expr_bytes e ≡ c) × ValidExpr n a e
checked_is n a p c e t h = go (tokens n a c) refl h
  where
    good : (d : Expr) → tokens n a c ≡ Some d → balanced 0 d ≡ true → d ≡ e → (Bytes c → expr_bytes e ≡ c) × ValidExpr n a e
    good d s y z =
        let q = tokens_is n a c d s in
        let l = q.1 in
        let w = within_true 1 32 (length c / 3) (and_parts (eqb (length c % 3) 0) (within 1 32 (length c / 3)) t).1 in
        rw (← z) (q.0, record { size = omega arith; tokens = q.2; balanced = y })

    go : (o : Option Expr) → tokens n a c ≡ o → checked p o ≡ Ok e → (Bytes c → expr_bytes e ≡ c) × ValidExpr n a e
    go None s r = absurd (err_ok r)
    go (Some d) s r = cond_both (balanced 0 d) (Ok d) (refuse (BadExpression p)) (λ x. x ≡ Ok e → (Bytes c → expr_bytes e ≡ c) × ValidExpr n a e) (λ y q. good d s y cc)
        (λ y q. absurd (err_ok q)) r

pub all_three : (a b c : Bool) → a && b && c ≡ true → (a ≡ true) × (b ≡ true) × (c ≡ true)
all_three true b c e = let p = and_parts b c e in (refl, p.0, p.1)
all_three false b c e = absurd (false≢true e)

at_one : (c : List ℕ) → 1 ≤ length c → get_or c 0 0 ∷ drop 1 c ≡ c
at_one [] h = absurd (omega arith)
at_one (x ∷ c) h = refl

module _ (n : ℕ) where
  -- a field that holds an update
  pub record Updated (x : Field) : Type 0 where
    pub parts : get_or x.contents 0 0 ∷ drop 1 x.contents ≡ x.contents
    pub known : get_or x.contents 0 0 < n
    pub sized : triples 1 32 (drop 1 x.contents) ≡ true

  update_field_is : (p : ℕ) (c : List ℕ) (x : Field) → update_field n p c ≡ Ok x → (Bytes c → (x.contents ≡ c) × ByteField x) × Updated x
  update_field_is p c x e =
      let t = tested_is _ _ _ _ e in
      let a = all_three (leb 1 (length c)) (ltb (get_or c 0 0) n) (triples 1 32 (drop 1 c)) t.0 in
      rw (← t.1) (λ b. (refl, b), record { parts = at_one c (leb-true _ _ a.0); known = ltb-true _ _ a.1; sized = a.2 })

  read_updates_is : (a : ℕ) (xs : List Field) (us : List Update) → AllByRecursion Updated xs → read_updates n a xs ≡ Ok us →
      (AllByRecursion ByteField xs → flat_map update_bytes us ≡ flat_map (λ x. field 69 x.contents) xs) × (length us ≡ length xs) × AllByRecursion (ValidUpdate n a) us
  read_updates_is a [] us h e = let z : [] ≡ us = cc in rw (← z) (λ b. refl, refl, tt)
  read_updates_is a (x ∷ xs) us h e =
      bound _ _ _ e λ v e₁ e.
      bound _ _ _ e λ vs e₂ e.
      let k = h.0 in
      let c = checked_is n a x.place (drop 1 x.contents) v k.sized e₁ in
      let rest = read_updates_is a xs vs h.1 e₂ in
      let z : record { cell = get_or x.contents 0 0; value = v } ∷ vs ≡ us = cc in
      let w : ByteField x → get_or x.contents 0 0 ∷ expr_bytes v ≡ x.contents = (λ b.
      ap {B = List ℕ} (λ d. get_or x.contents 0 0 ∷ d) (c.0 (All-drop (λ b. b < 256) 1 x.contents b)) ∙ k.parts) in
      rw (← z) (λ b. ap₂ (λ d d'. field 69 d ++ d') (w b.0) (rest.0 b.1), ap suc rest.1, ((k.known, c.1), rest.2))

  -- the contents of a rule's field
  abbrev raw_bytes : Raw → List ℕ
  raw_bytes r = r.call ∷ moment_number r.moment ∷ field 68 r.guard.contents ++ flat_map (λ x. field 69 x.contents) r.updates

  -- a rule whose fields were read
  pub record Ruled (r : Raw) : Type 0 where
    pub call : r.call ≤ 63
    pub sized : triples 1 32 r.guard.contents ≡ true
    pub few : length r.updates ≤ 8
    pub updates : AllByRecursion Updated r.updates

  -- a rule whose fields hold bytes
  abbrev ByteRaw : Raw → Type 0
  ByteRaw r = ByteField r.guard × AllByRecursion ByteField r.updates

  rule_field_is : (p : ℕ) (c : List ℕ) (r : Raw) → rule_field n p c ≡ Ok r → (Bytes c → (raw_bytes r ≡ c) × ByteRaw r) × Ruled r
  rule_field_is p c r e =
      needed _ _ _ _ e λ t e.
      bound _ _ _ e λ g eg e.
      bound _ _ _ e λ h et e.
      bound _ _ _ e λ us eu e.
      let a = all_three (leb 2 (length c)) (leb (get_or c 0 0) 63) (leb (get_or c 1 0) 2) t in
      let m = met BadPolicyField 68 (p + 5) (drop 2 c) g eg in
      let s = tested_is _ _ _ _ et in
      let f = fields_is 69 (update_field n) (λ x. x.contents) ByteField Updated update_field_is 8 _ g.rest us eu in
      let q : Raw = record { call = get_or c 0 0; moment = moment_of (get_or c 1 0); guard = record { place = p + 5; contents = g.contents }; updates = us } in
      let z : q ≡ r = rw s.1 cc in
      let w : Bytes c → (raw_bytes q ≡ c) × ByteRaw q = (λ b.
      let d = All-drop (λ b. b < 256) 2 c b in
      let i = f.0 (m.rest d) in (
        ap₂ {C = List ℕ} (λ t d. get_or c 0 0 ∷ t ∷ d) (moment_there (get_or c 1 0) (leb-true _ _ a.2)) (ap (λ d. field 68 g.contents ++ d) i.0 ∙ m.split d) ∙ at_two c
            (leb-true _ _ a.0),
        (m.contents d, i.1),
      )) in
      rw (← z) (w, record { call = leb-true _ _ a.1; sized = s.0; few = f.1; updates = f.2 })

  read_rule_is : (x : Raw) (r : Rule) → Ruled x → read_rule n x ≡ Ok r → (ByteRaw x → rule_bytes r ≡ field 67 (raw_bytes x)) × ValidRule n r
  read_rule_is x r h e =
      bound _ _ _ e λ g eg e.
      bound _ _ _ e λ us eu e.
      let c = checked_is n (arguments x.moment) x.guard.place x.guard.contents g h.sized eg in
      let u = read_updates_is (arguments x.moment) x.updates us h.updates eu in
      let z : record { call = x.call; moment = x.moment; guard = g; updates = us } ≡ r = cc in
      rw (← z) (
        λ b. ap₂ (λ d d'. field 67 (x.call ∷ moment_number x.moment ∷ field 68 d ++ d')) (c.0 b.0) (u.0 b.1),
        record { call = h.call; guard = c.1; few = rw u.1 h.few; updates = u.2 },
      )

  read_rule_list_is : (xs : List Raw) (rs : List Rule) → AllByRecursion Ruled xs → read_rule_list n xs ≡ Ok rs →
      (AllByRecursion ByteRaw xs → flat_map rule_bytes rs ≡ flat_map (λ x. field 67 (raw_bytes x)) xs) × (length rs ≡ length xs) × AllByRecursion (ValidRule n) rs
  read_rule_list_is [] rs h e = let z : [] ≡ rs = cc in rw (← z) (λ b. refl, refl, tt)
  read_rule_list_is (x ∷ xs) rs h e =
      bound _ _ _ e λ y e₁ e.
      bound _ _ _ e λ ys e₂ e.
      let r = read_rule_is x y h.0 e₁ in
      let rest = read_rule_list_is xs ys h.1 e₂ in
      let z : y ∷ ys ≡ rs = cc in
      rw (← z) (λ b. ap₂ (λ d d'. d ++ d') (r.0 b.0) (rest.0 b.1), ap suc rest.1, (r.1, rest.2))

-- rules whose fields and expressions were read
pub rules_written : (n p : ℕ) (r : List ℕ) (xs : List Raw) (rs : List Rule) → fields 64 67 (rule_field n) p r ≡ Ok xs → read_rule_list n xs ≡ Ok rs →
    (Bytes r → flat_map rule_bytes rs ≡ r) × (length rs ≤ 64) × AllByRecursion (ValidRule n) rs
rules_written n p r xs rs ex er =
    let fs = fields_is 67 (rule_field n) (raw_bytes n) (ByteRaw n) (Ruled n) (rule_field_is n) 64 p r xs ex in
    let rr = read_rule_list_is n xs rs fs.2 er in
    (λ k. let i = fs.0 k in rr.0 i.1 ∙ i.0, rw rr.1 fs.1, rr.2)

pub rules_accepted : (f : List ℕ) (p : Rules) → read_rules f ≡ Ok p → (Bytes f → write_rules p ≡ f) × ValidRules p
rules_accepted f p e =
    needed _ _ _ _ e λ short e.
    bound _ _ _ e λ h eh e.
    needed _ _ _ _ e λ th e.
    bound _ _ _ e λ s es e.
    needed _ _ _ _ e λ ts e.
    bound _ _ _ e λ xs ex e.
    bound _ _ _ e λ rs er e.
    needed _ _ _ _ e λ tb e.
    let n = get_or h.contents 1 0 in
    let mh = met BadPolicyField 65 0 f h eh in
    let ms = met BadPolicyField 66 _ h.rest s es in
    let a = all_three (eqb (length h.contents) 2) (eqb (get_or h.contents 0 0) 1) (leb n 16) th in
    let c : 1 ∷ n ∷ [] ≡ h.contents = ap {B = List ℕ} (λ x. x ∷ n ∷ []) (sym (eqb-true _ _ a.1)) ∙ two_bytes h.contents (eqb-true _ _ a.0) in
    let l = eqb-true (length s.contents) (4 * n) ts in
    let q = flat_quads s.contents (omega arith) in
    let ln = sym (length_flat (quads s.contents)) ∙ ap length q in
    let fs = fields_is 67 (rule_field n) (raw_bytes n) (ByteRaw n) (Ruled n) (rule_field_is n) 64 _ s.rest xs ex in
    let rr = read_rule_list_is n xs rs fs.2 er in
    let b : Rules = record { starts = map signed_of (quads s.contents); rules = rs } in
    let lb : length b.starts ≡ n = length-map (quads s.contents) signed_of ∙ omega arith in
    let z : b ≡ p = cc in
    let w : Bytes f → write_rules b ≡ f = (λ k.
    let ks = mh.rest k in
    let st = starts_is (quads s.contents) (whole_quads s.contents (ms.contents ks)) in
    let i = fs.0 (ms.rest ks) in
    rw (lb, c, st, q, rr.0 i.1, i.0, ms.split ks) (mh.split k)) in
    rw (← z) (
      w,
      record {
        cells = rw lb (leb-true _ _ a.2);
        signed = starts_signed (quads s.contents);
        few = rw rr.1 fs.1;
        rules = rw lb rr.2;
        blocks = tb;
      },
    )
