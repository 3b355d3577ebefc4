-- Rule policies: their meaning, their blocks, their files.
use Rattle.std.specs.Prelude.{◌≡◌, ℕ, zero, suc, ◌+◌, ◌-◌, ◌*◌, ◌/◌, ◌%◌, ◌<◌, ◌≤◌, Bool, true, false, cond, ◌&&◌, ◌||◌, leb, List, [], ◌∷◌, ◌++◌, map, length, drop, ℤ, pos, is_ok, Some, None, Ok, Err, filter, Option, FitsSigned, ◌==◌, nat_le, nat_lt, slice_index, slice_index_or, slice_set}
use Rattle.std.specs.Int.{w16, w32}
use Rattle.std.proofs.Common.{to_z, of_z}
use Rattle.std.specs.List.{flat_map, AllByRecursion}
use Rattle.model.specs.declared.Moment.{Moment}
use Rattle.model.specs.declared.Operator.{Operator}
use Rattle.model.specs.Moments.{moment_number, moment_of, same_moment}
use Rattle.model.specs.declared.Test.{Test}
use Rattle.model.specs.declared.Test.TheVariants.{Skip, Skz, Viol, Mset, Mcell, Marg, Store, Op}
use Rattle.model.specs.Policy.{Automaton, Blocks, eqZ, operate, arguments}
use Rattle.model.specs.Words.{operator_number, operator_of, word, high, low, quads, flat, signed_of, quad_of}
use Rattle.model.specs.Fields.{Read, Field, refuse, need, ◌>>=◌, ◌>>◌, within, Within, every, next, expect, fields, tested, field}
use Rattle.model.specs.declared.Refusal.TheVariants.{BadPolicyField, BadPolicySize, BadExpression, BlockTooLong}

-- a signed constant, a cell, an argument (4 is the answer), or an operator
pub data Token : Type 0 where
  constant : ℤ → Token
  cell : ℕ → Token
  argument : ℕ → Token
  operator : Operator → Token

-- an expression in postfix
abbrev pub Expr : Type 0
Expr = List Token

-- a cell gets a new value
pub record Update : Type 0 where
  pub cell : ℕ
  pub value : Expr

-- for a call and a moment: a guard, and what it updates
pub record Rule : Type 0 where
  pub call : ℕ
  pub moment : Moment
  pub guard : Expr
  pub updates : List Update

-- a rule policy
pub record Rules : Type 0 where
  pub starts : List ℤ
  pub rules : List Rule

-- an operator takes the last two values held; the last one stands first
abbrev pub operated : Operator → List ℤ → List ℤ
operated o [] = []
operated o (y ∷ []) = []
operated o (y ∷ x ∷ vs) = operate o x y ∷ vs

-- the values held behind one token, with a0 to a4 in a and the cells c
abbrev pub taken : List ℤ → List ℤ → Token → List ℤ → List ℤ
taken a c (constant z) vs = z ∷ vs
taken a c (cell i) vs = slice_index_or c i (pos 0) ∷ vs
taken a c (argument i) vs = slice_index_or a i (pos 0) ∷ vs
taken a c (operator o) vs = operated o vs

-- the values held behind an expression
abbrev pub values : List ℤ → List ℤ → Expr → List ℤ → List ℤ
values a c [] vs = vs
values a c (t ∷ ts) vs = values a c ts (taken a c t vs)

-- the value of an expression
abbrev pub value : List ℤ → List ℤ → Expr → ℤ
value a c ts = slice_index_or (values a c ts []) 0 (pos 0)

-- each update sees the last
abbrev pub updated : List ℤ → List Update → List ℤ → List ℤ
updated a [] c = c
updated a (u ∷ us) c = updated a us (slice_set c u.cell (value a c u.value))

-- the first rule with a nonzero guard acts
abbrev pub acted : List ℤ → List ℤ → List Rule → Option (List ℤ)
acted a c [] = None
acted a c (r ∷ rs) = let o = acted a c rs in cond (eqZ (value a c r.guard) (pos 0)) o (Some (updated a r.updates c))

-- the rules for a call and a moment, in file order
abbrev pub rules_of : List Rule → ℕ → Moment → List Rule
rules_of rs k t = filter (λ r. (r.call == k) && same_moment r.moment t) rs

-- without rules it passes
abbrev pub rules_step : List ℤ → List ℤ → List Rule → Option (List ℤ)
rules_step a c [] = Some c
rules_step a c (r ∷ rs) = acted a c (r ∷ rs)

-- a call with any rule is watched
abbrev pub has_rule : ℕ → List Rule → Bool
has_rule k [] = false
has_rule k (r ∷ rs) = r.call == k || has_rule k rs

-- the meaning of a rule policy
abbrev pub rules_automaton : Rules → Automaton
rules_automaton p = record {
  width = length p.starts;
  starts = p.starts;
  watched = λ k. has_rule k p.rules;
  step = λ e c. rules_step (e.args ++ (e.answer ∷ [])) c (rules_of p.rules e.call e.moment);
}

-- an expression met with d values held, f being the first cell: MSET, MCELL or MARG into m[d], an operator OP d − 2
abbrev pub emit : ℕ → ℕ → Expr → List Test
emit f d [] = []
emit f d (constant z ∷ ts) = Mset d z ∷ emit f (d + 1) ts
emit f d (cell i ∷ ts) = Mcell d (f + i) ∷ emit f (d + 1) ts
emit f d (argument i ∷ ts) = Marg d i ∷ emit f (d + 1) ts
emit f d (operator o ∷ ts) = Op (d - 2) o ∷ emit f (d - 1) ts

-- each update closed by STORE 0
abbrev pub emit_updates : ℕ → List Update → List Test
emit_updates f [] = []
emit_updates f (u ∷ us) = emit f 0 u.value ++ (Store 0 (f + u.cell) ∷ emit_updates f us)

-- the guard, SKZ 0 over the rest of the rule, the updates, SKIP over the rules behind it
abbrev pub guarded : List Test → List Test → List Test → List Test
guarded guard updates rest = guard ++ (Skz 0 (length updates + 1) ∷ updates ++ (Skip (length rest) ∷ rest))

-- rule by rule; last a VIOL
abbrev pub emit_rules : ℕ → List Rule → List Test
emit_rules f [] = Viol ∷ []
emit_rules f (r ∷ rs) = guarded (emit f 0 r.guard) (emit_updates f r.updates) (emit_rules f rs)

-- without rules the block is empty
abbrev pub block_of : ℕ → List Rule → List Test
block_of f [] = []
block_of f (r ∷ rs) = emit_rules f (r ∷ rs)

-- the blocks of a rule policy
abbrev pub rules_block : Rules → Blocks
rules_block p k t f = block_of f (rules_of p.rules k t)

-- a to b items of three bytes
abbrev pub triples : ℕ → ℕ → List ℕ → Bool
triples a b c = length c % 3 == 0 && within a b (length c / 3)

-- a rule whose expressions are not read yet
pub record Raw : Type 0 where
  pub call : ℕ
  pub moment : Moment
  pub guard : Field
  pub updates : List Field

-- tag 69 of a policy of n cells: a cell, and 1 to 32 tokens
abbrev pub update_field : ℕ → ℕ → List ℕ → Read Field
update_field n p c = tested (nat_le 1 (length c) && nat_lt (slice_index c 0) n && triples 1 32 (drop 1 c)) p c

-- tag 67: call, moment, one tag 68, then up to eight tags 69
abbrev pub rule_field : ℕ → ℕ → List ℕ → Read Raw
rule_field n p c = do
  need (nat_le 2 (length c) && nat_le (slice_index c 0) 63 && nat_le (slice_index c 1) 2) (BadPolicySize p)
  g ← expect BadPolicyField 68 (p + 5) (drop 2 c)
  h ← tested (triples 1 32 g.contents) (p + 5) g.contents
  us ← fields 8 69 (update_field n) (next g) g.rest
  Ok (record { call = slice_index c 0; moment = moment_of (slice_index c 1); guard = h; updates = us })

-- a token in a policy of n cells, where the arguments below a may be read
abbrev pub token : ℕ → ℕ → ℕ → ℕ → Option Token
token n a zero y = Some (constant (to_z w16 y))
token n a (suc zero) y = cond (nat_lt y n) (Some (cell y)) None
token n a (suc (suc zero)) y = cond (nat_lt y a) (Some (argument y)) None
token n a (suc (suc (suc zero))) y = cond (nat_le y 5) (Some (operator (operator_of y))) None
token n a (suc (suc (suc (suc k)))) y = None

-- one token more, if both are there
abbrev pub both : Option Token → Option Expr → Option Expr
both None o = None
both (Some t) None = None
both (Some t) (Some ts) = Some (t ∷ ts)

-- tokens of three bytes each
abbrev pub tokens : ℕ → ℕ → List ℕ → Option Expr
tokens n a [] = Some []
tokens n a (k ∷ []) = None
tokens n a (k ∷ h ∷ []) = None
tokens n a (k ∷ h ∷ l ∷ r) = both (token n a k (word h l)) (tokens n a r)

-- with d values held at first, at most eight are held, and one at the end
abbrev pub balanced : ℕ → Expr → Bool
balanced d [] = d == 1
balanced d (constant z ∷ ts) = nat_lt d 8 && balanced (d + 1) ts
balanced d (cell i ∷ ts) = nat_lt d 8 && balanced (d + 1) ts
balanced d (argument i ∷ ts) = nat_lt d 8 && balanced (d + 1) ts
balanced d (operator o ∷ ts) = nat_le 2 d && balanced (d - 1) ts

-- an expression, or 22 at its tag
abbrev pub checked : ℕ → Option Expr → Read Expr
checked p None = refuse (BadExpression p)
checked p (Some ts) = cond (balanced 0 ts) (Ok ts) (refuse (BadExpression p))

-- the expressions of the updates
abbrev pub read_updates : ℕ → ℕ → List Field → Read (List Update)
read_updates n a [] = Ok []
read_updates n a (u ∷ us) = do
  e ← checked u.place (tokens n a (drop 1 u.contents))
  es ← read_updates n a us
  Ok (record { cell = slice_index u.contents 0; value = e } ∷ es)

-- the expressions of a rule
abbrev pub read_rule : ℕ → Raw → Read Rule
read_rule n r = do
  g ← checked r.guard.place (tokens n (arguments r.moment) r.guard.contents)
  us ← read_updates n (arguments r.moment) r.updates
  Ok (record { call = r.call; moment = r.moment; guard = g; updates = us })

-- rule by rule
abbrev pub read_rule_list : ℕ → List Raw → Read (List Rule)
read_rule_list n [] = Ok []
read_rule_list n (x ∷ xs) = do
  r ← read_rule n x
  rs ← read_rule_list n xs
  Ok (r ∷ rs)

-- every block has at most 1,000 instructions
abbrev pub short_blocks : Rules → Bool
short_blocks p = every (λ r. leb (length (rules_block p r.call r.moment 0)) 1000) p.rules

-- the reading of a rule policy: 20 and 21 in file order, 22, then 24
abbrev pub read_rules : List ℕ → Read Rules
read_rules f = do
  need (nat_le (length f) 65535) (BadPolicyField 0)
  h ← expect BadPolicyField 65 0 f
  let n = slice_index h.contents 1
  need (length h.contents == 2 && slice_index h.contents 0 == 1 && nat_le n 16) (BadPolicySize 0)
  s ← expect BadPolicyField 66 (next h) h.rest
  need (length s.contents == 4 * n) (BadPolicySize s.place)
  xs ← fields 64 67 (rule_field n) (next s) s.rest
  rs ← read_rule_list n xs
  let p : Rules = record { starts = map signed_of (quads s.contents); rules = rs }
  need (short_blocks p) BlockTooLong
  Ok p

-- the bytes of a token
abbrev pub token_bytes : Token → List ℕ
token_bytes (constant z) = 0 ∷ high (of_z w16 z) ∷ low (of_z w16 z) ∷ []
token_bytes (cell i) = 1 ∷ high i ∷ low i ∷ []
token_bytes (argument i) = 2 ∷ high i ∷ low i ∷ []
token_bytes (operator o) = 3 ∷ high (operator_number o) ∷ low (operator_number o) ∷ []

-- the bytes of an expression
abbrev pub expr_bytes : Expr → List ℕ
expr_bytes = flat_map token_bytes

-- tag 69
abbrev pub update_bytes : Update → List ℕ
update_bytes u = field 69 (u.cell ∷ expr_bytes u.value)

-- tag 67
abbrev pub rule_bytes : Rule → List ℕ
rule_bytes r = field 67 (r.call ∷ moment_number r.moment ∷ field 68 (expr_bytes r.guard) ++ flat_map update_bytes r.updates)

-- the file of a rule policy
abbrev pub write_rules : Rules → List ℕ
write_rules p = field 65 (1 ∷ length p.starts ∷ []) ++ (field 66 (flat (map quad_of p.starts)) ++ flat_map rule_bytes p.rules)

-- a token that a policy of n cells may have, where the arguments below a may be read
abbrev pub ValidToken : ℕ → ℕ → Token → Type 0
ValidToken n a (constant z) = FitsSigned w16 z
ValidToken n a (cell i) = i < n
ValidToken n a (argument i) = i < a
ValidToken n a (operator o) = Unit {0}

-- 1 to 32 tokens, balanced
pub record ValidExpr (n a : ℕ) (e : Expr) : Type 0 where
  pub size : Within 1 32 (length e)
  pub tokens : AllByRecursion (ValidToken n a) e
  pub balanced : balanced 0 e ≡ true

-- an update of a policy of n cells
abbrev pub ValidUpdate : ℕ → ℕ → Update → Type 0
ValidUpdate n a u = (u.cell < n) × ValidExpr n a u.value

-- a rule of a policy of n cells
pub record ValidRule (n : ℕ) (r : Rule) : Type 0 where
  pub call : r.call ≤ 63
  pub guard : ValidExpr n (arguments r.moment) r.guard
  pub few : length r.updates ≤ 8
  pub updates : AllByRecursion (ValidUpdate n (arguments r.moment)) r.updates

-- a rule policy within all limits
pub record ValidRules (p : Rules) : Type 0 where
  pub cells : length p.starts ≤ 16
  pub signed : AllByRecursion (FitsSigned w32) p.starts
  pub few : length p.rules ≤ 64
  pub rules : AllByRecursion (ValidRule (length p.starts)) p.rules
  pub blocks : short_blocks p ≡ true

-- a rule that refuses call k before it is handed out
abbrev pub refusing_rule : ℕ → Rule
refusing_rule k = record { call = k; moment = Moment.Before; guard = constant (pos 0) ∷ []; updates = [] }

-- n such rules, from call k on
abbrev pub refusing_each : ℕ → ℕ → List Rule
refusing_each zero k = []
refusing_each (suc n) k = refusing_rule k ∷ refusing_each n (k + 1)

-- the rule policy that refuses every call
unfoldable pub refusing_rules : Rules
refusing_rules = record { starts = []; rules = refusing_each 64 0 }

-- a file reads as a rule policy
abbrev pub reads_rules : List ℕ → Bool
reads_rules f = is_ok (read_rules f)

-- the policy that was read; where none was, the one that refuses every call
abbrev pub rules_or_refusing : Read Rules → Rules
rules_or_refusing (Ok p) = p
rules_or_refusing (Err r) = refusing_rules

-- the rule policy of a file
unfoldable pub rules_in : List ℕ → Rules
rules_in f = rules_or_refusing (read_rules f)
