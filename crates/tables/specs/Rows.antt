-- Rows of state tables, as they are read.
use Rattle.std.specs.Prelude.{ℕ, zero, suc, ◌+◌, ◌-◌, ◌/◌, List, [], ◌∷◌, length, take, drop}
use Rattle.std.specs.Slice.Iter.{chunks_exact_rest, chunks_exact_size}
use Rattle.model.specs.Moments.{moment_of}
use Rattle.model.specs.Tables.{Row, row_in}
use Rattle.tables.specs.declared.row.Row.{Row as ReadRow}
use Rattle.tables.specs.declared.row.Rows.{Rows}

-- a row that was read
abbrev pub shown : ReadRow → Row
shown r = record { call = r.call; moment = moment_of r.when; nexts = r.nexts.now }

-- m rows in fields of so many bytes: behind each field's tag and length
abbrev pub rows_in : ℕ → ℕ → List ℕ → List Row
rows_in size zero fields = []
rows_in size (suc m) fields = row_in (drop 3 (take size fields)) ∷ rows_in size m (drop size fields)

-- the rows that a file of a table of n states has room for
abbrev pub rows_of : ℕ → List ℕ → List Row
rows_of n f = rows_in (5 + n) ((length f - 6) / (5 + n)) (drop 6 f)

-- the rows that are left
abbrev pub rows_left : Rows → List Row
rows_left r = rows_in (chunks_exact_size r.fields) (length (chunks_exact_rest r.fields) / chunks_exact_size r.fields) (chunks_exact_rest r.fields)
