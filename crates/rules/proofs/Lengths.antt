-- How long blocks are.
use Rattle.std.proofs.Common.{◌≡◌, ℕ, ◌+◌, ◌-◌, ◌/◌, true, false, ◌&&◌, eqb, List, [], ◌∷◌, ◌++◌, length, sym, refl, ap, ◌∙◌, append_assoc, arith, length-append}
use Rattle.model.specs.declared.Moment.{Moment}
use Rattle.model.specs.declared.Test.TheVariants.{Skip, Skz}
use Rattle.model.specs.Moments.{same_moment}
use Rattle.model.specs.Rules.{constant, cell, argument, operator, Expr, Update, Rule, emit, emit_updates, emit_rules, rules_of, block_of, expr_bytes}
use Rattle.rules.specs.Writer.{rule_code}
use Rattle.model.proofs.PolicyRoundTrip.{length_expr}

pub length_emit : (f d : ℕ) (ts : Expr) → length (emit f d ts) ≡ length ts
length_emit f d [] = refl
length_emit f d (constant z ∷ ts) = let h = length_emit f (d + 1) ts in omega arith
length_emit f d (cell i ∷ ts) = let h = length_emit f (d + 1) ts in omega arith
length_emit f d (argument i ∷ ts) = let h = length_emit f (d + 1) ts in omega arith
length_emit f d (operator o ∷ ts) = let h = length_emit f (d - 1) ts in omega arith

-- the bytes of an expression tell how long its code is
pub expr_size : (f : ℕ) (c : List ℕ) (ts : Expr) → c ≡ expr_bytes ts → length (emit f 0 ts) ≡ length c / 3
expr_size f c ts e = let l = ap length e in let h = length_expr ts in let k = length_emit f 0 ts in omega arith

pub length_updates : (f : ℕ) (u : Update) (us : List Update) → length (emit_updates f (u ∷ us)) ≡ length (emit f 0 u.value) + 1 + length (emit_updates f us)
length_updates f u us = rw (length-append (emit f 0 u.value) _) (omega arith)

-- how many instructions a rule makes
abbrev pub rule_size : Rule → ℕ
rule_size r = length (emit 0 0 r.guard) + length (emit_updates 0 r.updates) + 2

-- how many instructions rules make
abbrev pub rules_size : List Rule → ℕ
rules_size [] = 0
rules_size (r ∷ rs) = rule_size r + rules_size rs

-- the first cell does not matter
pub updates_placed : (f : ℕ) (us : List Update) → length (emit_updates f us) ≡ length (emit_updates 0 us)
updates_placed f [] = refl
updates_placed f (u ∷ us) =
    let h = updates_placed f us in
    let a = length_updates f u us in
    let b = length_updates 0 u us in
    let c = length_emit f 0 u.value in
    let d = length_emit 0 0 u.value in
    omega arith

pub length_rules : (f : ℕ) (rs : List Rule) → length (emit_rules f rs) ≡ rules_size rs + 1
length_rules f [] = refl
length_rules f (r ∷ rs) =
    let h = length_rules f rs in
    let a = length-append (emit f 0 r.guard) (Skz 0 (length (emit_updates f r.updates) + 1) ∷ emit_updates f r.updates ++ (Skip (length (emit_rules f rs)) ∷ emit_rules f rs)) in
    let b = length-append (emit_updates f r.updates) (Skip (length (emit_rules f rs)) ∷ emit_rules f rs) in
    let c = length_emit f 0 r.guard in
    let d = length_emit 0 0 r.guard in
    let e = updates_placed f r.updates in
    omega arith

-- a block without rules is empty, and else it ends with one more
pub block_size_none : (rs : List Rule) → rules_size rs ≡ 0 → length (block_of 0 rs) ≡ 0
block_size_none [] e = refl
block_size_none (r ∷ rs) e = absurd (omega arith)

pub block_size_some : (rs : List Rule) → (rules_size rs ≡ 0 → ⊥) → length (block_of 0 rs) ≡ rules_size rs + 1
block_size_some [] e = absurd (e refl)
block_size_some (r ∷ rs) e = length_rules 0 (r ∷ rs)

-- a rule for a call and a moment counts, and another does not
pub size_for : (k : ℕ) (t : Moment) (r : Rule) (rs : List Rule) → eqb r.call k && same_moment r.moment t ≡ true →
    rules_size (rules_of (r ∷ rs) k t) ≡ rule_size r + rules_size (rules_of rs k t)
size_for k t r rs e = rw e

pub size_other : (k : ℕ) (t : Moment) (r : Rule) (rs : List Rule) → eqb r.call k && same_moment r.moment t ≡ false →
    rules_size (rules_of (r ∷ rs) k t) ≡ rules_size (rules_of rs k t)
size_other k t r rs e = rw e

-- a block that has rules
pub block_some : (f : ℕ) (rs : List Rule) → (length (block_of 0 rs) ≡ 0 → ⊥) → block_of f rs ≡ emit_rules f rs
block_some f [] h = absurd (h refl)
block_some f (r ∷ rs) h = refl

pub block_none : (f : ℕ) (rs : List Rule) → length (block_of 0 rs) ≡ 0 → block_of f rs ≡ []
block_none f [] h = refl
block_none f (r ∷ rs) h = absurd (let l = length_rules 0 (r ∷ rs) in omega arith)

pub block_as_long : (rs : List Rule) → (length (block_of 0 rs) ≡ 0 → ⊥) → length (block_of 0 rs) ≡ rules_size rs + 1
block_as_long [] h = absurd (h refl)
block_as_long (r ∷ rs) h = length_rules 0 (r ∷ rs)

-- the code of the first rule, then that of the others
pub rule_first : (f : ℕ) (r : Rule) (rs : List Rule) → emit_rules f (r ∷ rs) ≡ rule_code f r.guard r.updates (length (emit_rules f rs)) ++ emit_rules f rs
rule_first f r rs =
    let g = emit f 0 r.guard in
    let u = emit_updates f r.updates in
    let s = Skip (length (emit_rules f rs)) in
    sym (append_assoc g (Skz 0 (length u + 1) ∷ u ++ (s ∷ [])) (emit_rules f rs) ∙ ap (λ z. g ++ (Skz 0 (length u + 1) ∷ z)) (append_assoc u (s ∷ []) (emit_rules f rs)))
