-- Table policies: their meaning, their blocks, their files.
use Rattle.std.specs.Prelude.{◌≡◌, ℕ, zero, suc, ◌+◌, ◌<◌, ◌≤◌, Bool, true, false, cond, not, ◌&&◌, ◌||◌, ◌⊎◌, List, [], ◌∷◌, ◌++◌, length, drop, ℤ, pos, negsuc, is_ok, Some, None, Ok, Err, Option, ◌==◌, nat_le, nat_lt, slice_index, slice_index_or, slice_set}
use Rattle.std.specs.List.{flat_map, AllByRecursion}
use Rattle.model.specs.declared.Moment.{Moment}
use Rattle.model.specs.declared.Operator.TheVariants.{Equal}
use Rattle.model.specs.Moments.{moment_number, moment_of, same_moment}
use Rattle.model.specs.declared.Test.{Test}
use Rattle.model.specs.declared.Test.TheVariants.{Skip, Skz, Viol, Mset, Mcell, Store, Op}
use Rattle.model.specs.Policy.{Automaton, Blocks}
use Rattle.model.specs.Fields.{Read, Field, need, ◌>>=◌, ◌>>◌, within, Within, every, next, expect, fields, tested, field}
use Rattle.model.specs.declared.Refusal.TheVariants.{BadPolicyField, BadPolicySize, SecondRow}

-- for a call and a moment: by state, the next state, or 255 for refused
pub record Row : Type 0 where
  pub call : ℕ
  pub moment : Moment
  pub nexts : List ℕ

-- a state table
pub record Table : Type 0 where
  pub states : ℕ
  pub start : ℕ
  pub rows : List Row

-- it is the row of that call and moment
abbrev pub row_for : ℕ → Moment → Row → Bool
row_for k t r = r.call == k && same_moment r.moment t

-- the next states for a call and a moment, if there is a row
abbrev pub row_of : List Row → ℕ → Moment → Option (List ℕ)
row_of [] k t = None
row_of (r ∷ rs) k t = let o = row_of rs k t in cond (row_for k t r) (Some r.nexts) o

-- to state q, or refused
abbrev pub moved_to : List ℤ → ℕ → Option (List ℤ)
moved_to c q = cond (q == 255) None (Some (slice_set c 0 (pos q)))

-- a value with no state is refused
abbrev pub from : List ℤ → List ℕ → ℤ → Option (List ℤ)
from c qs (pos v) = moved_to c (slice_index_or qs v 255)
from c qs (negsuc v) = None

-- a missing row passes
abbrev pub by_row : List ℤ → Option (List ℕ) → Option (List ℤ)
by_row c None = Some c
by_row c (Some qs) = from c qs (slice_index_or c 0 (pos 0))

-- a call with any row is watched
abbrev pub has_row : ℕ → List Row → Bool
has_row k [] = false
has_row k (r ∷ rs) = r.call == k || has_row k rs

-- the meaning of a state table
abbrev pub table_automaton : Table → Automaton
table_automaton p = record {
  width = 1;
  starts = pos p.start ∷ [];
  watched = λ k. has_row k p.rows;
  step = λ e c. by_row c (row_of p.rows e.call e.moment);
}

-- the tests from state q on, f being the cell; last a VIOL
abbrev pub states_block : ℕ → ℕ → List ℕ → List Test
states_block f q [] = Viol ∷ []
states_block f q (n ∷ ns) =
    let rest = states_block f (q + 1) ns in
    cond (n == 255) rest (Mcell 0 f ∷ Mset 1 (pos q) ∷ Op 0 Equal ∷ Skz 0 3 ∷ Mset 0 (pos n) ∷ Store 0 f ∷ Skip (length rest) ∷ rest)

-- a missing row has an empty block
abbrev pub row_block : ℕ → Option (List ℕ) → List Test
row_block f None = []
row_block f (Some ns) = states_block f 0 ns

-- the blocks of a state table
abbrev pub table_block : Table → Blocks
table_block p k t f = row_block f (row_of p.rows k t)

-- tag 98 of a table of n states
abbrev pub row_field : ℕ → ℕ → List ℕ → Read Field
row_field n p c = tested (length c == 2 + n && nat_le (slice_index c 0) 63 && nat_le (slice_index c 1) 2 && every (λ q. nat_lt q n || q == 255) (drop 2 c)) p c

-- a row from its bytes
abbrev pub row_in : List ℕ → Row
row_in c = record { call = slice_index c 0; moment = moment_of (slice_index c 1); nexts = drop 2 c }

-- row by row, the rows before being known: 23 at the second for a call and moment
abbrev pub read_rows : List Row → List Field → Read (List Row)
read_rows known [] = Ok []
read_rows known (x ∷ xs) = do
  let r = row_in x.contents
  need (every (λ s. not (row_for r.call r.moment s)) known) (SecondRow x.place)
  rs ← read_rows (r ∷ known) xs
  Ok (r ∷ rs)

-- the reading of a state table: 20 and 21 in file order, then 23
abbrev pub read_table : List ℕ → Read Table
read_table f = do
  need (nat_le (length f) 65535) (BadPolicyField 0)
  h ← expect BadPolicyField 97 0 f
  let n = slice_index h.contents 1
  need (length h.contents == 3 && slice_index h.contents 0 == 1 && within 1 16 n && nat_lt (slice_index h.contents 2) n) (BadPolicySize 0)
  xs ← fields 64 98 (row_field n) (next h) h.rest
  rs ← read_rows [] xs
  Ok (record { states = n; start = slice_index h.contents 2; rows = rs })

-- tag 98
abbrev pub row_bytes : Row → List ℕ
row_bytes r = field 98 (r.call ∷ moment_number r.moment ∷ r.nexts)

-- the file of a state table
abbrev pub write_table : Table → List ℕ
write_table p = field 97 (1 ∷ p.states ∷ p.start ∷ []) ++ flat_map row_bytes p.rows

-- a row of a table of n states
abbrev pub ValidRow : ℕ → Row → Type 0
ValidRow n r = (r.call ≤ 63) × (length r.nexts ≡ n) × AllByRecursion (λ q. (q < n) ⊎ (q ≡ 255)) r.nexts

-- no row for a call and moment of a row before
abbrev pub Apart : List Row → List Row → Type 0
Apart known [] = Unit {0}
Apart known (r ∷ rs) = (every (λ s. not (row_for r.call r.moment s)) known ≡ true) × Apart (r ∷ known) rs

-- a state table within all limits
pub record ValidTable (p : Table) : Type 0 where
  pub states : Within 1 16 p.states
  pub start : p.start < p.states
  pub few : length p.rows ≤ 64
  pub rows : AllByRecursion (ValidRow p.states) p.rows
  pub apart : Apart [] p.rows

-- it refuses call k in its only state
abbrev pub refusing_row : ℕ → Row
refusing_row k = record { call = k; moment = Moment.Before; nexts = 255 ∷ [] }

-- n such rows, from call k on
abbrev pub refusing_rows : ℕ → ℕ → List Row
refusing_rows zero k = []
refusing_rows (suc n) k = refusing_row k ∷ refusing_rows n (k + 1)

-- the state table that refuses every call
unfoldable pub refusing_table : Table
refusing_table = record { states = 1; start = 0; rows = refusing_rows 64 0 }

-- before any call up to 63 it refuses
abbrev pub RefusesCalls : Automaton → Type 0
RefusesCalls A = (k : ℕ) (args : List ℤ) (answer : ℤ) (c : List ℤ) → k ≤ 63 → A.step (record { moment = Moment.Before; call = k; args = args; answer = answer }) c ≡ None

-- what reading a state table answers
abbrev pub table_answer : List ℕ → Read (Unit {0})
table_answer f = read_table f >>= (λ t. Ok tt)

-- a file reads as a state table
abbrev pub reads_table : List ℕ → Bool
reads_table f = is_ok (read_table f)

-- the table that was read; where none was, the one that refuses every call
abbrev pub table_or_refusing : Read Table → Table
table_or_refusing (Ok t) = t
table_or_refusing (Err r) = refusing_table

-- the table of a file
unfoldable pub table_in : List ℕ → Table
table_in f = table_or_refusing (read_table f)
