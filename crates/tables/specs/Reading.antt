-- The reading of a state table, step by step.
use Rattle.std.specs.Prelude.{ℕ, ◌+◌, ◌*◌, Bool, cond, ◌&&◌, ◌||◌, List, [], ◌∷◌, ◌++◌, length, drop, Ok, Err, ◌==◌, nat_le, nat_lt, slice_index}
use Rattle.std.specs.List.{list_any}
use Rattle.model.specs.declared.Refusal.TheVariants.{BadPolicyField, BadPolicySize, SecondRow}
use Rattle.model.specs.Fields.{Read, need, within, every, expect, fields, ◌>>=◌, ◌>>◌}
use Rattle.model.specs.Tables.{Row, row_for, row_field}

-- the contents of the field of that tag that is due at place p of a file
abbrev pub due_contents : ℕ → ℕ → List ℕ → Read (List ℕ)
due_contents tag p f = expect BadPolicyField tag p (drop p f) >>= (λ x. Ok x.contents)

-- the head's contents are as they should be
abbrev pub head_well : List ℕ → Bool
head_well c = length c == 3 && slice_index c 0 == 1 && within 1 16 (slice_index c 1) && nat_lt (slice_index c 2) (slice_index c 1)

-- the number of states, from the head
abbrev pub head_states : List ℕ → Read ℕ
head_states f = due_contents 97 0 f >>= (λ c. need (head_well c) (BadPolicySize 0) >> Ok (slice_index c 1))

-- a row's contents are as they should be in a table of n states
abbrev pub row_well : ℕ → List ℕ → Bool
row_well n c = length c == 2 + n && nat_le (slice_index c 0) 63 && nat_le (slice_index c 1) 2 && every (λ q. nat_lt q n || q == 255) (drop 2 c)

-- at most m rows of a table of n states, from place p on to the file's end
abbrev pub rows_answer : ℕ → ℕ → ℕ → List ℕ → Read (Unit {0})
rows_answer m n p f = fields m 98 (row_field n) p (drop p f) >>= (λ xs. Ok tt)

-- the rows from row i on of a table of n states are for calls and moments of their own, and not for one of a row before
abbrev pub apart_from : ℕ → ℕ → List Row → List Row → Read (Unit {0})
apart_from n i before [] = Ok tt
apart_from n i before (r ∷ rs) = cond (list_any (row_for r.call r.moment) before) (Err (SecondRow (6 + (5 + n) * i))) (apart_from n (i + 1) (before ++ r ∷ []) rs)
