-- Woven indices that were filled in.
use Rattle.std.specs.Prelude.{◌≡◌, ℕ, min, List, slice_index}
use Rattle.model.specs.declared.Own.{Own}
use Rattle.model.specs.Policy.{Automaton, Blocks}
use Rattle.model.specs.Weave.{start}
use Rattle.weaver.specs.declared.indices.WovenIndices.{WovenIndices}

-- the woven index of index t; past the end, that of the end
abbrev pub index_of : WovenIndices → ℕ → ℕ
index_of s t = slice_index s.all (min t s.count)

-- they are those of a method's code
abbrev pub Filled : Automaton → Blocks → List Own → WovenIndices → Type 0
Filled A B cs s = (t : ℕ) → index_of s t ≡ start A.watched (λ k t. B k t 0) cs t
