-- Values on a stack.
use Rattle.std.specs.Prelude.{ℕ, zero, suc, List, [], ◌∷◌, ℤ, pos, slice_index_or}

-- the first d values of a row, the last one first
abbrev pub held : List ℤ → ℕ → List ℤ
held m zero = []
held m (suc d) = slice_index_or m d (pos 0) ∷ held m d
