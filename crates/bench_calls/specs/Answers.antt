-- What a reading and a weaving answer in numbers.
use Rattle.std.specs.Prelude.{ℕ, List, Ok, Err}
use Rattle.model.specs.Fields.{Read}
use Rattle.model.specs.Refusals.{number, place}
use Rattle.model.specs.Areas.{weave_answer, weave_area}
use Rattle.model.specs.Rules.{rules_in, rules_automaton, rules_block}

-- the refusal's number, 0 where there is none
abbrev pub number_of : {X : Type 0} → Read X → ℕ
number_of (Ok a) = 0
number_of (Err e) = number e

-- the refusal's place, 0 where there is none
abbrev pub place_of : {X : Type 0} → Read X → ℕ
place_of (Ok a) = 0
place_of (Err e) = place e

-- how many bytes were written, 0 where it refuses
abbrev pub length_of : Read ℕ → ℕ
length_of (Ok n) = n
length_of (Err e) = 0

-- what weave answers with the policy of a file of rules
abbrev pub rules_weave : List ℕ → List ℕ → List ℕ → Read ℕ
rules_weave p f area = weave_answer (rules_automaton (rules_in p)) (rules_block (rules_in p)) f area

-- the area after it
abbrev pub rules_area : List ℕ → List ℕ → List ℕ → List ℕ
rules_area p f area = weave_area (rules_automaton (rules_in p)) (rules_block (rules_in p)) f area
