-- The reading of a rule policy, by its opening, its rules and its blocks.
use Rattle.std.proofs.Common.{◌≡◌, ℕ, ◌≤◌, Bool, true, false, cond, leb, List, [], ◌∷◌, map, length, get_or, drop, ℤ, is_ok, is_err, Some, None, Ok, Err, Option, sym, refl, ap, ◌∙◌, subst}
use Rattle.std.proofs.lemmas.Bool.{false≢true}
use Rattle.model.specs.declared.Refusal.{Refusal}
use Rattle.model.specs.declared.Refusal.TheVariants.{BadPolicyField, BadExpression, BlockTooLong}
use Rattle.model.specs.Fields.{Bytes, Read, Part, Field, need, every, next, expect, fields, ◌>>=◌, ◌>>◌}
use Rattle.model.specs.Policy.{arguments}
use Rattle.model.specs.Rules.{Rule, Rules, Raw, Expr, rules_of, block_of, balanced, tokens, checked, read_updates, read_rule, read_rule_list, read_rules, rule_field}
use Rattle.model.proofs.Accepted.{err_ok, bound, needed}
use Rattle.model.proofs.Parts.{parts_of_files}
use Rattle.model.proofs.PolicyAccepted.{rules_written}
use Rattle.model.specs.Words.{quads, signed_of}
use Rattle.rules.specs.Pieces.{forget}
use Rattle.rules.specs.Tokens.{well_held}
use Rattle.std.specs.Option.{option_or}
use Rattle.rules.specs.Reader.{first_of, bad_expr, bad_update, bad_rule, faulty, told, opened, rules_from}
use Rattle.rules.specs.declared.reader.Opening.{Opening}
use Rattle.rules.specs.Views.{Written}
use Rattle.rules.proofs.Reading.{Here, read_here}

-- every block of the rules is short
abbrev pub short : List Rule → Bool
short rs = every (λ r. leb (length (block_of 0 (rules_of rs r.call r.moment))) 1000) rs

-- ---- expressions

ok_none : {A : Type 0} (r : Read A) (a : A) (x : Option ℕ) → r ≡ Ok a → forget r ≡ told x → x ≡ None
ok_none r a None e f = refl
ok_none r a (Some p) e f = absurd (err_ok (sym f ∙ ap forget e))

two : {A B C : Type 0} (r : Read A) (s : Read B) (g : A → B → C) (x y : Option ℕ) → forget r ≡ told x → forget s ≡ told y →
    forget (r >>= (λ a. s >>= (λ b. Ok (g a b)))) ≡ told (option_or x y)
unfolding ◌>>=◌
two (Ok a) (Ok b) g None y p q = q
two (Ok a) (Err e) g None y p q = q
two (Ok a) s g (Some k) y p q = absurd (err_ok (sym p))
two (Err e) s g None y p q = absurd (err_ok p)
two (Err e) s g (Some k) y p q = p

checked_told : (n a p : ℕ) (c : List ℕ) → forget (checked p (tokens n a c)) ≡ told (bad_expr n a p c)
checked_told n a p c = go (tokens n a c)
  where
    by : (b : Bool) (ts : Expr) → forget (cond b (Ok ts) (Err (BadExpression p))) ≡ told (cond b None (Some p))
    by true ts = refl
    by false ts = refl

    go : (o : Option Expr) → forget (checked p o) ≡ told (cond (well_held 0 o) None (Some p))
    go None = refl
    go (Some ts) = by (balanced 0 ts) ts

updates_told : (n a : ℕ) (us : List Field) → forget (read_updates n a us) ≡ told (first_of (bad_update n a) us)
updates_told n a [] = refl
updates_told n a (u ∷ us) = two _ _ _ _ _ (checked_told n a u.place (drop 1 u.contents)) (updates_told n a us)

rule_told : (n : ℕ) (r : Raw) → forget (read_rule n r) ≡ told (bad_rule n r)
rule_told n r = two _ _ _ _ _ (checked_told n (arguments r.moment) r.guard.place r.guard.contents) (updates_told n (arguments r.moment) r.updates)

rules_told : (n : ℕ) (xs : List Raw) → forget (read_rule_list n xs) ≡ told (first_of (bad_rule n) xs)
rules_told n [] = refl
rules_told n (x ∷ xs) = two _ _ _ _ _ (rule_told n x) (rules_told n xs)

-- ---- rules

module _ (n p : ℕ) (c : List ℕ) where
  pub rules_refused : (x : Refusal) → Err x ≡ faulty (bad_rule n) None (fields 64 67 (rule_field n) p c) → rules_from n p c ≡ Err x
  unfolding ◌>>=◌
  rules_refused x e = go (fields 64 67 (rule_field n) p c) e
    where
      go : (r : Read (List Raw)) → Err x ≡ faulty (bad_rule n) None r → r >>= read_rule_list n ≡ Err x
      go (Ok xs) e = absurd (err_ok e)
      go (Err y) e = cc

  told_bad : {A : Type 0} (r : Read A) (k : ℕ) → forget r ≡ told (Some k) → r ≡ Err (BadExpression k)
  told_bad (Ok a) k e = absurd (err_ok (sym e))
  told_bad (Err x) k e = cc

  told_good : {A : Type 0} (r : Read A) → forget r ≡ told None → (a : A) × (r ≡ Ok a)
  told_good (Ok a) e = (a, refl)
  told_good (Err x) e = absurd (err_ok e)

  pub rules_bad : (k : ℕ) → Ok (Some k) ≡ faulty (bad_rule n) None (fields 64 67 (rule_field n) p c) → rules_from n p c ≡ Err (BadExpression k)
  unfolding ◌>>=◌
  rules_bad k e = go (fields 64 67 (rule_field n) p c) e
    where
      go : (r : Read (List Raw)) → Ok (Some k) ≡ faulty (bad_rule n) None r → r >>= read_rule_list n ≡ Err (BadExpression k)
      go (Ok xs) e = let z : first_of (bad_rule n) xs ≡ Some k = cc in told_bad (read_rule_list n xs) k (rules_told n xs ∙ ap told z)
      go (Err y) e = absurd (err_ok (sym e))

  pub rules_good : Bytes c → Ok None ≡ faulty (bad_rule n) None (fields 64 67 (rule_field n) p c) → (rs : List Rule) × (rules_from n p c ≡ Ok rs) × Written n c rs
  unfolding ◌>>=◌
  rules_good b e = go (fields 64 67 (rule_field n) p c) refl e
    where
      go : (r : Read (List Raw)) → fields 64 67 (rule_field n) p c ≡ r → Ok None ≡ faulty (bad_rule n) None r → (rs : List Rule) × (r >>= read_rule_list n ≡ Ok rs) × Written n c rs
      go (Ok xs) q e =
          let z : first_of (bad_rule n) xs ≡ None = cc in
          let g = told_good (read_rule_list n xs) (rules_told n xs ∙ ap told z) in
          let w = rules_written n p c xs g.0 q g.1 in
          (g.0, g.1, (sym (w.0 b), w.2))
      go (Err y) q e = absurd (err_ok (sym e))

-- ---- the whole file

-- what is left to read behind the opening
abbrev pub remaining : List ℕ → Opening → Read (Unit {0})
remaining f o = forget (rules_from o.cells o.rules (drop o.rules f) >>= (λ rs. need (short rs) BlockTooLong))

-- one read that both begin with
step : {A : Type 0} (T : Opening → Read (Unit {0})) (r : Read A) (k : A → Read Rules) (l : A → Read Opening) →
    ((a : A) → r ≡ Ok a → forget (k a) ≡ (l a >>= T)) → forget (r >>= k) ≡ (r >>= l >>= T)
unfolding ◌>>=◌
step T (Ok a) k l h = h a refl
step T (Err e) k l h = refl

-- a policy of starts and rules
abbrev policy : List ℤ → List Rule → Rules
policy zs rs = record { starts = zs; rules = rs }

behind_starts : (n p : ℕ) (c : List ℕ) (zs : List ℤ) →
    forget (fields 64 67 (rule_field n) p c >>= (λ xs. read_rule_list n xs >>= (λ rs. need (short rs) BlockTooLong >> Ok (policy zs rs))))
    ≡ forget (rules_from n p c >>= (λ rs. need (short rs) BlockTooLong))
unfolding ◌>>=◌
behind_starts n p c zs = go (fields 64 67 (rule_field n) p c)
  where
    last : (b : Bool) (rs : List Rule) → forget (need b BlockTooLong >> Ok (policy zs rs)) ≡ forget (need b BlockTooLong)
    last true rs = refl
    last false rs = refl

    then : (r : Read (List Rule)) → forget (r >>= (λ rs. need (short rs) BlockTooLong >> Ok (policy zs rs))) ≡ forget (r >>= (λ rs. need (short rs) BlockTooLong))
    then (Ok rs) = last (short rs) rs
    then (Err e) = refl

    go : (r : Read (List Raw)) →
        forget (r >>= (λ xs. read_rule_list n xs >>= (λ rs. need (short rs) BlockTooLong >> Ok (policy zs rs))))
        ≡ forget (r >>= read_rule_list n >>= (λ rs. need (short rs) BlockTooLong))
    go (Ok xs) = then (read_rule_list n xs)
    go (Err e) = refl

-- the place behind the starts, and what stands from there on
past_starts : (f : List ℕ) (h s : Part) → expect BadPolicyField 65 0 f ≡ Ok h → expect BadPolicyField 66 (next h) h.rest ≡ Ok s → Here f 66 (next h) s.contents (next s) × (s.rest ≡ drop (next s) f)
past_starts f h s e₁ e₃ =
    let wh = parts_of_files.in_file f BadPolicyField 65 0 h e₁ in
    let es = ap (expect BadPolicyField 66 (next h)) (sym wh.rest) ∙ e₃ in
    let ws = parts_of_files.in_file f BadPolicyField 66 (next h) s es in
    (read_here f 66 (next h) s es, ws.rest)

pub opening_read : (f : List ℕ) (o : Opening) (x : Read Opening) → x ≡ Ok o → (x >>= remaining f) ≡ remaining f o
unfolding ◌>>=◌
opening_read f o x e = rw e

pub opening_refused : (f : List ℕ) (r : Refusal) (x : Read Opening) → x ≡ Err r → (x >>= remaining f) ≡ Err r
unfolding ◌>>=◌
opening_refused f r x e = rw e

pub read_as : (f : List ℕ) → forget (read_rules f) ≡ (opened f >>= remaining f)
read_as f =
    step (remaining f) _ _ _ (λ u e₀.
    step (remaining f) _ _ _ (λ h e₁.
    step (remaining f) _ _ _ (λ u e₂.
    step (remaining f) _ _ _ (λ s e₃.
    step (remaining f) _ _ _ (λ u e₄.
    let n = get_or h.contents 1 0 in
    let o : Opening = record { cells = n; rules = next s } in
    let zs = map signed_of (quads s.contents) in
    behind_starts n (next s) s.rest zs ∙ ap (λ c. forget (rules_from n (next s) c >>= (λ rs. need (short rs) BlockTooLong))) (past_starts f h s e₁ e₃).1
    ∙ sym (opening_read f o (Ok o) refl))))))

-- the rules begin within the file
pub opened_within : (f : List ℕ) (o : Opening) → opened f ≡ Ok o → o.rules ≤ length f
opened_within f o e =
    needed _ _ _ _ e λ t e.
    bound _ _ _ e λ h e₁ e.
    needed _ _ _ _ e λ t e.
    bound _ _ _ e λ s e₂ e.
    needed _ _ _ _ e λ t e.
    let z : record { cells = get_or h.contents 1 0; rules = next s } ≡ o = cc in
    subst (λ (k : ℕ). k ≤ length f) (ap (λ (q : Opening). q.rules) z) (past_starts f h s e₁ e₂).0.ends

-- ---- behind the opening

module _ (f : List ℕ) (o : Opening) where
  pub left_refused : (x : Refusal) → rules_from o.cells o.rules (drop o.rules f) ≡ Err x → remaining f o ≡ Err x
  unfolding ◌>>=◌
  left_refused x e = rw e

  module _ (rs : List Rule) (e : rules_from o.cells o.rules (drop o.rules f) ≡ Ok rs) where
    pub left_long : short rs ≡ false → remaining f o ≡ Err BlockTooLong
    unfolding ◌>>=◌
    left_long t = rw (e, t)

    pub left_good : short rs ≡ true → remaining f o ≡ Ok tt
    unfolding ◌>>=◌
    left_good t = rw (e, t)

-- ---- what a check tells

pub refused_read : (f : List ℕ) (r : Read (Unit {0})) → r ≡ forget (read_rules f) → is_err r ≡ true → is_ok (read_rules f) ≡ false
refused_read f r e h = go (read_rules f) (ap is_err (sym e) ∙ h)
  where
    go : (x : Read Rules) → is_err (forget x) ≡ true → is_ok x ≡ false
    go (Ok p) h = absurd (false≢true h)
    go (Err y) h = refl
