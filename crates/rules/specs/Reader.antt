-- What the reader of rule policies finds on its way: refusals of fields, and the place of the first bad expression.
use Rattle.std.specs.Prelude.{ℕ, ◌*◌, Bool, cond, ◌&&◌, List, [], ◌∷◌, length, drop, Some, None, Ok, Err, Option, ◌==◌, nat_le, nat_lt, slice_index}
use Rattle.model.specs.declared.Refusal.TheVariants.{BadPolicyField, BadPolicySize, BadExpression}
use Rattle.model.specs.Policy.{arguments}
use Rattle.model.specs.Fields.{Read, Field, refuse, need, expect, next, fields, ◌>>=◌, ◌>>◌}
use Rattle.model.specs.Rules.{Rule, Raw, tokens, triples, rule_field, read_rule_list}
use Rattle.std.specs.Option.{option_or}
use Rattle.rules.specs.Tokens.{well_held}
use Rattle.rules.specs.declared.reader.Opening.{Opening}

-- the place of an expression that is bad, if it is
abbrev pub bad_expr : ℕ → ℕ → ℕ → List ℕ → Option ℕ
bad_expr n a p c = cond (well_held 0 (tokens n a c)) None (Some p)

-- the same of an update
abbrev pub bad_update : ℕ → ℕ → Field → Option ℕ
bad_update n a u = bad_expr n a u.place (drop 1 u.contents)

-- the first place that is found in a list
abbrev pub first_of : {X : Type 0} → (X → Option ℕ) → List X → Option ℕ
first_of g [] = None
first_of g (x ∷ xs) = option_or (g x) (first_of g xs)

-- the first bad expression of a rule
abbrev pub bad_rule : ℕ → Raw → Option ℕ
bad_rule n r = option_or (bad_expr n (arguments r.moment) r.guard.place r.guard.contents) (first_of (bad_update n (arguments r.moment)) r.updates)

-- what was read, by its first bad expression
abbrev pub one_bad : {X : Type 0} → (X → Option ℕ) → Read X → Read (Option ℕ)
one_bad g (Ok x) = Ok (g x)
one_bad g (Err e) = Err e

-- a list of what was read, by its first bad expression behind one that was found before
abbrev pub faulty : {X : Type 0} → (X → Option ℕ) → Option ℕ → Read (List X) → Read (Option ℕ)
faulty g b (Ok xs) = Ok (option_or b (first_of g xs))
faulty g b (Err e) = Err e

-- the contents of a rule begin with a call and a moment
abbrev pub headed : List ℕ → Bool
headed c = nat_le 2 (length c) && nat_le (slice_index c 0) 63 && nat_le (slice_index c 1) 2

-- the contents of an update of a policy of n cells: a cell, and 1 to 32 tokens
abbrev pub updating : ℕ → List ℕ → Bool
updating n c = nat_le 1 (length c) && nat_lt (slice_index c 0) n && triples 1 32 (drop 1 c)

-- refused at the place of a bad expression
abbrev pub told : Option ℕ → Read (Unit {0})
told None = Ok tt
told (Some p) = refuse (BadExpression p)

-- the contents of the head: the format, and up to 16 cells
abbrev pub heading : List ℕ → Bool
heading c = length c == 2 && slice_index c 0 == 1 && nat_le (slice_index c 1) 16

-- how a file begins: the head and the start values
abbrev pub opened : List ℕ → Read Opening
opened f = do
  need (nat_le (length f) 65535) (BadPolicyField 0)
  h ← expect BadPolicyField 65 0 f
  need (heading h.contents) (BadPolicySize 0)
  s ← expect BadPolicyField 66 (next h) h.rest
  need (length s.contents == 4 * slice_index h.contents 1) (BadPolicySize s.place)
  Ok (record { cells = slice_index h.contents 1; rules = next s })

-- the rules of a policy of n cells, from place p on
abbrev pub rules_from : ℕ → ℕ → List ℕ → Read (List Rule)
rules_from n p c = fields 64 67 (rule_field n) p c >>= read_rule_list n
