-- What the areas that a host program lends hold after a call.
use Rattle.std.specs.Prelude.{ℕ, List, ◌++◌, length, drop, replicate, Ok, Err}
use Rattle.model.specs.Policy.{Automaton, Blocks}
use Rattle.model.specs.Fields.{Read, ◌>>=◌}
use Rattle.model.specs.Files.{weave_file}

-- what was written, then what the area held past it
abbrev pub over_area : List ℕ → List ℕ → List ℕ
over_area written area = written ++ drop (length written) area

-- an area after a call that writes: on refusal it is as it was
abbrev pub area_after : List ℕ → Read (List ℕ) → List ℕ
area_after area (Ok written) = over_area written area
area_after area (Err r) = area

-- a work area after check, however it ends: all zero
abbrev pub cleared : List ℕ → List ℕ
cleared area = replicate (length area) 0

-- what weave answers: how many bytes it wrote
abbrev pub weave_answer : Automaton → Blocks → List ℕ → List ℕ → Read ℕ
weave_answer A B f area = weave_file A B f (length area) >>= (λ g. Ok (length g))

-- the output area after weave: the woven file, then what was there
abbrev pub weave_area : Automaton → Blocks → List ℕ → List ℕ → List ℕ
weave_area A B f area = area_after area (weave_file A B f (length area))
