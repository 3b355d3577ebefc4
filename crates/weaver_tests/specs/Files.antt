-- Files for the tests of weaving, and what weaving answers.
use Rattle.std.specs.Prelude.{ℕ, ◌+◌, ◌*◌, ◌/◌, ◌%◌, List, [], ◌∷◌, ◌++◌, length, replicate, Ok, Err, Result, slice_set}
use Rattle.std.specs.List.{fold, flat_map, repeat}
use Rattle.model.specs.declared.Refusal.{Refusal}
use Rattle.model.specs.Refusals.{number, place}
use Rattle.model.specs.Rules.{rules_in, rules_automaton, rules_block}
use Rattle.model.specs.Areas.{weave_answer}
use Rattle.model.specs.Examples.{policy_file}

-- a refusal's number and place, or 0 and the length
abbrev pub told : Result ℕ Refusal → ℕ × ℕ
told (Ok n) = (0, n)
told (Err r) = (number r, place r)

-- a file with bytes changed, each at its place if there is one
abbrev pub changed_file : List ℕ → List (ℕ × ℕ) → List ℕ
changed_file file changes = fold (λ f c. slice_set f c.0 c.1) file changes

-- what weaving P into a file answers, with room for any woven file
abbrev pub answer_of : List ℕ → ℕ × ℕ
answer_of file = told (weave_answer (rules_automaton (rules_in policy_file)) (rules_block (rules_in policy_file)) file (replicate 65536 0))

-- a method of so many times HOST 5 with target 0, and then of so many times END
abbrev pub method_of : ℕ × ℕ → List ℕ
method_of m =
    (4 ∷ 4 * (m.0 + m.1) / 256 % 256 ∷ 4 * (m.0 + m.1) % 256 ∷ [])
    ++ (repeat m.0 (13 ∷ 5 ∷ 0 ∷ 0 ∷ []) ++ repeat m.1 (14 ∷ 0 ∷ 0 ∷ 0 ∷ []))

-- a file of so many threads, each in method 0, without start values and with these methods
abbrev pub hosts_file : ℕ → List (ℕ × ℕ) → List ℕ
hosts_file threads methods =
    (1 ∷ 0 ∷ 2 ∷ 1 ∷ length methods % 256 ∷ 2 ∷ 0 ∷ threads ∷ [])
    ++ (repeat threads (0 ∷ []) ++ ((3 ∷ 0 ∷ 0 ∷ []) ++ flat_map method_of methods))
