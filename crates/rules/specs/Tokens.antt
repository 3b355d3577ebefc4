-- Tokens, as the code has them.
use Rattle.std.specs.Prelude.{ℕ, ◌+◌, ◌-◌, Bool, false, List, [], ◌∷◌, Some, None, Option, nat_le, nat_lt}
use Rattle.model.specs.Words.{word}
use Rattle.model.specs.Rules as rules
use Rattle.model.specs.Rules.{Expr, token, balanced}
use Rattle.rules.specs.declared.tokens.Token.{Token}
use Rattle.rules.specs.declared.tokens.Token.TheVariants.{Constant, Cell, Argument, Operator}

-- the token that is meant
abbrev pub meant : Token → rules.Token
meant (Constant z) = rules.constant z
meant (Cell i) = rules.cell i
meant (Argument i) = rules.argument i
meant (Operator o) = rules.operator o

-- the first token of an expression's bytes
abbrev pub first_token : ℕ → ℕ → List ℕ → Option rules.Token
first_token n a [] = None
first_token n a (k ∷ []) = None
first_token n a (k ∷ h ∷ []) = None
first_token n a (k ∷ h ∷ l ∷ r) = token n a k (word h l)

-- with d values held there are enough of them for a token, and room for its own
abbrev pub room : ℕ → rules.Token → Bool
room d (rules.constant z) = nat_lt d 8
room d (rules.cell i) = nat_lt d 8
room d (rules.argument i) = nat_lt d 8
room d (rules.operator o) = nat_le 2 d

-- how many values are held behind a token
abbrev pub after : ℕ → rules.Token → ℕ
after d (rules.constant z) = d + 1
after d (rules.cell i) = d + 1
after d (rules.argument i) = d + 1
after d (rules.operator o) = d - 1

-- with d values held at first: tokens that are balanced
abbrev pub well_held : ℕ → Option Expr → Bool
well_held d None = false
well_held d (Some ts) = balanced d ts
