-- Instructions written into an area.
use Rattle.std.specs.Prelude.{◌≡◌, ℕ, ◌+◌, ◌-◌, ◌*◌, ◌<◌, ◌≤◌, List, [], ◌∷◌, ◌++◌, length}
use Rattle.model.specs.declared.Test.{Test}
use Rattle.model.specs.declared.Test.TheVariants.{Mset, Mcell, Marg, Op, Skz, Skip}
use Rattle.model.specs.Calls.{block_bytes}
use Rattle.model.specs.Rules.{Token, constant, cell, argument, operator, Expr, Update, emit, emit_updates}
use Rattle.policy.specs.Calls.{put_at}

-- where there is room for instructions at a place, they are written there, and the place behind them is given
abbrev pub Puts : List ℕ → ℕ → List Test → ℕ → List ℕ → Type 0
Puts area at tests to after = at + 4 * length tests ≤ length area → (to ≡ at + 4 * length tests) × (after ≡ put_at area at (block_bytes tests))

-- so many cells from a first one on have numbers of one byte
abbrev pub Cells : ℕ → ℕ → Type 0
Cells n f = (i : ℕ) → i < n → f + i ≤ 255

-- the instruction of a token in a policy of n cells, f being the first, met with d values held
abbrev pub IsCoded : ℕ → ℕ → ℕ → Token → Test → Type 0
IsCoded n f d (constant z) i = i ≡ Mset d z
IsCoded n f d (cell j) i = j < n → i ≡ Mcell d (f + j)
IsCoded n f d (argument j) i = i ≡ Marg d j
IsCoded n f d (operator o) i = i ≡ Op (d - 2) o

-- the code of a rule with so many instructions behind it
abbrev pub rule_code : ℕ → Expr → List Update → ℕ → List Test
rule_code f guard us behind = emit f 0 guard ++ (Skz 0 (length (emit_updates f us) + 1) ∷ emit_updates f us ++ (Skip behind ∷ []))

-- a block of at most 1,000 instructions, in an area that has room for it
abbrev pub Fitting : List ℕ → List Test → Type 0
Fitting area b = (length b ≤ 1000) × (4 * length b ≤ length area)
