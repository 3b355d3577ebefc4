-- The rule of the table of opcodes, by one computed test over all opcodes.
use Rattle.std.proofs.Common.{◌≡◌, ℕ, ◌+◌, ◌-◌, ◌<◌, ◌≤◌, cond, ◌&&◌, leb, List, map, length, get_or, Some, None, Option, sym, refl, ap, ◌∙◌, arith}
use Rattle.std.proofs.Math.ListN.{get_or-map}
use Rattle.std.specs.List.{range_with_len}
use Rattle.std.specs.Option.{option_map}
use Rattle.std.proofs.lemmas.Bool.{le-leb}
use Rattle.std.proofs.lemmas.Bool.Decides.{nat_tests}
use Rattle.std.proofs.lemmas.List.{get_or_default}
use Rattle.std.proofs.lemmas.List.FromFn.{get_or-map-range_with_len}
use Rattle.model.specs.Words.{find, table}
use Rattle.opcodes.specs.Table.{Row, ranges, no_row}

-- the row of an opcode by its position
abbrev placed : ℕ → Option Row
placed o =
    cond (leb 1 o && leb o 14) (Some (get_or (map ranges table) (o - 1) no_row))
    (cond (leb 32 o && leb o 41) (Some (get_or (map ranges table) (o - 32 + 14) no_row)) None)

-- for every opcode the row that is found is the one at its position
test : map (λ o. option_map ranges (find o table)) (range_with_len 0 256) ≡ map placed (range_with_len 0 256)
unfolding table
test = refl

rule : (o : ℕ) → o < 256 → option_map ranges (find o table) ≡ placed o
rule o h =
    sym (get_or-map-range_with_len (λ k. option_map ranges (find k table)) 0 256 o o None h (omega arith)) ∙ ap (λ xs. get_or xs o None) test ∙
    get_or-map-range_with_len placed 0 256 o o None h (omega arith)

pub rule_low : (o : ℕ) → 1 ≤ o → o ≤ 14 → option_map ranges (find o table) ≡ Some (get_or (map ranges table) (o - 1) no_row)
rule_low o a b = rule o (omega arith) ∙ rw (le-leb 1 o a, le-leb o 14 b)

pub rule_high : (o : ℕ) → 32 ≤ o → o ≤ 41 → option_map ranges (find o table) ≡ Some (get_or (map ranges table) (o - 32 + 14) no_row)
rule_high o a b = rule o (omega arith) ∙ grind (arith, nat_tests)

pub rule_none : (o : ℕ) → o < 256 → (1 ≤ o → o ≤ 14 → ⊥) → (32 ≤ o → o ≤ 41 → ⊥) → option_map ranges (find o table) ≡ None
rule_none o l a b = rule o l ∙ grind (arith, nat_tests)

long : length (map ranges table) ≡ 24
unfolding table
long = refl

-- a row of the code's table is that of the list
pub row_in : {X : Type 0} (f : X → Row) (rows : List X) (i : ℕ) (d : X) → i < 24 → map f rows ≡ map ranges table → f (get_or rows i d) ≡ get_or (map ranges table) i no_row
row_in f rows i d h e =
    sym (get_or-map f rows i d) ∙ ap (λ xs. get_or xs i (f d)) e ∙ get_or_default (map ranges table) i (f d) no_row (rw long h)
