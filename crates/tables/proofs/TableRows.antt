-- Rows of state tables, their steps and their blocks.
use Rattle.std.proofs.Common.{◌≡◌, ℕ, zero, suc, ◌+◌, ◌-◌, ◌*◌, ◌/◌, ◌<◌, ◌≤◌, Bool, true, false, cond, eqb, ◌||◌, ◌⊎◌, List, [], ◌∷◌, ◌++◌, length, get_or, take, drop, set, ℤ, pos, Some, None, Option, sym, refl, ap, ap₂, ◌∙◌, inl, inr, mul-suc, append_assoc, add-one, arith, length-append, filter, is_some}
use Rattle.std.proofs.lemmas.List.{at_drop_more, at_drop_all, drop_more, take_at, drop_at, drop-take, drop-drop, ext_get_or}
use Rattle.std.proofs.lemmas.Bool.{ne_eqb, cases_eq}
use Rattle.std.proofs.Math.Nat.{add-div_left, div-eq_of_lt, div-eq_of_eq-mul_right}
use Rattle.std.specs.List.{list_any, find}
use Rattle.std.specs.Option.{option_map}
use Rattle.model.specs.declared.Moment.{Moment}
use Rattle.model.specs.Tables.{Row, Table, row_in, row_of, has_row, row_for, states_block}
use Rattle.model.specs.Calls.{block_bytes}
use Rattle.policy.specs.Calls.{put_at}
use Rattle.tables.specs.States.{state_of, state_tests}
use Rattle.tables.specs.declared.row.Row.{Row as ReadRow}
use Rattle.tables.specs.Rows.{shown, rows_in, rows_of}
use Rattle.policy.proofs.Writes.{put_behind, put_none, bytes_append}
use Rattle.model.proofs.TableFiles.{TableFile}

-- ---- steps

-- the first cell of a row
pub first_cell : (row : List ℤ) (v : ℤ) → 1 ≤ length row → set row 0 v ≡ (v ∷ []) ++ drop 1 row
first_cell [] v h = absurd (omega arith)
first_cell (x ∷ row) v h = refl

pub first_set : (row : List ℤ) (v : ℤ) → 1 ≤ length row → set row 0 v ≡ set (take 1 row) 0 v ++ drop 1 row
first_set [] v h = absurd (omega arith)
first_set (x ∷ row) v h = refl

pub first_same : (row : List ℤ) → take 1 row ++ drop 1 row ≡ row
first_same [] = refl
first_same (x ∷ row) = refl

pub first_getD : (row : List ℤ) → get_or (take 1 row) 0 (pos 0) ≡ get_or row 0 (pos 0)
first_getD [] = refl
first_getD (x ∷ row) = refl

-- ---- how long a block is

abbrev pub row_size : List ℕ → ℕ
row_size [] = 1
row_size (n ∷ ns) = cond (eqb n 255) 0 7 + row_size ns

pub states_size : (f q : ℕ) (ns : List ℕ) → length (states_block f q ns) ≡ row_size ns
states_size f q [] = refl
states_size f q (n ∷ ns) = let h = states_size f (q + 1) ns in go (eqb n 255) h
  where
    go : (b : Bool) → length (states_block f (q + 1) ns) ≡ row_size ns → length (cond b (states_block f (q + 1) ns)
        (state_tests f q n (length (states_block f (q + 1) ns)) ++ states_block f (q + 1) ns)) ≡ cond b 0 7 + row_size ns
    go true h = omega arith
    go false h = omega arith

-- a byte of a row that tells a next state
abbrev pub is_next : ℕ → Bool
is_next b = is_some (state_of b)

pub row_size_is : (ns : List ℕ) → row_size ns ≡ 1 + 7 * length (filter is_next ns)
row_size_is [] = refl
row_size_is (n ∷ ns) = let h = row_size_is ns in go (eqb n 255) h
  where
    go : (b : Bool) → row_size ns ≡ 1 + 7 * length (filter is_next ns) →
        cond b 0 7 + row_size ns ≡ 1 + 7 * length (cond (is_some (cond b None (Some n))) (n ∷ filter is_next ns) (filter is_next ns))
    go true h = omega arith
    go false h = omega arith

pub size_at : (ns : List ℕ) (i : ℕ) → i < length ns → row_size (drop i ns) ≡ cond (eqb (get_or ns i 0) 255) 0 7 + row_size (drop (i + 1) ns)
size_at ns i h = at_drop_more row_size ns i 0 h

pub size_end : (ns : List ℕ) (i : ℕ) → length ns ≤ i → row_size (drop i ns) ≡ 1
size_end ns i h = at_drop_all row_size ns i h

-- ---- how a block is written

-- what is written so far, with what is still to be
pub record Written (ns : List ℕ) (f q at left : ℕ) (old area : List ℕ) : Type 0 where
  pub done : List ℕ
  pub is : area ≡ put_at old 0 done
  pub to : at ≡ length done
  pub rest : done ++ block_bytes (states_block f q (drop q ns)) ≡ block_bytes (states_block f 0 ns)
  pub count : left ≡ row_size (drop q ns)

pub start : (ns : List ℕ) (f : ℕ) (old : List ℕ) → Written ns f 0 0 (row_size ns) old old
start ns f old = record { done = []; is = sym (put_none old 0); to = refl; rest = refl; count = refl }

-- a state with no next one
pub without : (ns : List ℕ) (f q at left : ℕ) (old area : List ℕ) → q < length ns → get_or ns q 0 ≡ 255 → Written ns f q at left old area → Written ns f (q + 1) at left old area
without ns f q at left old area h e w = record {
  done = w.done;
  is = w.is;
  to = w.to;
  rest = rw (drop_more ns q 0 h, e) at w.rest;
  count = w.count ∙ (rw e at (size_at ns q h)) ∙ omega arith;
}

unfolded : (ns : List ℕ) (f q : ℕ) → q < length ns → (get_or ns q 0 ≡ 255 → ⊥) →
    states_block f q (drop q ns) ≡ state_tests f q (get_or ns q 0) (length (states_block f (q + 1) (drop (q + 1) ns))) ++ states_block f (q + 1) (drop (q + 1) ns)
unfolded ns f q h ne = rw (drop_more ns q 0 h, ne_eqb (get_or ns q 0) 255 ne)

-- a state with a next one
pub with_next : (ns : List ℕ) (f q at left n : ℕ) (old area new : List ℕ) → q < length ns → (get_or ns q 0 ≡ 255 → ⊥) → at + 28 ≤ length area → n + 7 ≡ left →
    new ≡ put_at area at (block_bytes (state_tests f q (get_or ns q 0) n)) → Written ns f q at left old area → length area ≡ length old →
    Written ns f (q + 1) (at + 28) n old new
with_next ns f q at left n old area new h ne room e is w lo =
    let s = state_tests f q (get_or ns q 0) n in
    let b = states_block f (q + 1) (drop (q + 1) ns) in
    let size : n ≡ row_size (drop (q + 1) ns) = omega (arith, w.count, rw (ne_eqb (get_or ns q 0) 255 ne) at (size_at ns q h)) in
    let l : length b ≡ n = states_size f (q + 1) (drop (q + 1) ns) ∙ sym size in
    record {
      done = w.done ++ block_bytes s;
      is = is ∙ ap (λ x. put_at x at (block_bytes s)) w.is ∙ put_behind old w.done (block_bytes s) at (sym w.to) (omega arith);
      to = simp length-append (omega (arith, w.to));
      rest = append_assoc w.done (block_bytes s) (block_bytes b) ∙
          ap (λ y. w.done ++ y) (sym (bytes_append s b) ∙ ap block_bytes (rw l at (sym (unfolded ns f q h ne)))) ∙ w.rest;
      count = size;
    }

-- the last instruction
pub finish : (ns : List ℕ) (f q at left : ℕ) (old area new : List ℕ) → length ns ≤ q → new ≡ put_at area at (block_bytes (states_block f q [])) → at ≤ length old →
    Written ns f q at left old area → new ≡ put_at old 0 (block_bytes (states_block f 0 ns))
finish ns f q at left old area new h is room w =
    is ∙ ap (λ x. put_at x at (block_bytes (states_block f q []))) w.is ∙ put_behind old w.done (block_bytes (states_block f q [])) at (sym w.to) room ∙
    ap (put_at old 0) (ap (λ y. w.done ++ y) (sym (at_drop_all (λ r. block_bytes (states_block f q r)) ns q h)) ∙ w.rest)

-- ---- the states that bytes tell

pub none_told : (b : ℕ) → None ≡ state_of b → b ≡ 255
none_told b e = go (cases_eq b 255)
  where
    go : (b ≡ 255) ⊎ (b ≡ 255 → ⊥) → b ≡ 255
    go (inl h) = h
    go (inr h) = let z : None ≡ Some b = e ∙ rw (ne_eqb b 255 h) in cc

pub some_told : (b n : ℕ) → Some n ≡ state_of b → (b ≡ n) × (b ≡ 255 → ⊥)
some_told b n e = go (cases_eq b 255)
  where
    go : (b ≡ 255) ⊎ (b ≡ 255 → ⊥) → (b ≡ n) × (b ≡ 255 → ⊥)
    go (inl h) = let z : Some n ≡ None = e ∙ rw h in cc
    go (inr h) = let z : Some n ≡ Some b = e ∙ rw (ne_eqb b 255 h) in (cc, h)

-- a state with a next one has seven instructions
pub seven : (ns : List ℕ) (q left : ℕ) → q < length ns → (get_or ns q 0 ≡ 255 → ⊥) → left ≡ row_size (drop q ns) → 7 ≤ left
seven ns q left h ne e = omega (arith, rw (ne_eqb (get_or ns q 0) 255 ne) at (size_at ns q h))

-- ---- rows in fields

-- too few bytes for a row
pub rows_none : (s : ℕ) (xs : List ℕ) → length xs < s → rows_in s (length xs / s) xs ≡ []
rows_none s xs h = ap (λ m. rows_in s m xs) (div-eq_of_lt h)

-- a row, and the others
pub rows_some : (s : ℕ) (xs field others : List ℕ) → 0 < s → xs ≡ field ++ others → length field ≡ s →
    rows_in s (length xs / s) xs ≡ row_in (drop 3 field) ∷ rows_in s (length others / s) others
rows_some s xs field others h e l =
    let k : length xs ≡ s + length others = ap length e ∙ length-append field others ∙ ap (λ n. n + length others) l in
    let m : length xs / s ≡ suc (length others / s) = ap (λ n. n / s) k ∙ add-div_left (length others) h ∙ add-one (length others / s) in
    ap (λ n. rows_in s n xs) m ∙
    ap₂ (λ a b. row_in (drop 3 a) ∷ rows_in s (length others / s) b) (ap (take s) e ∙ take_at field others s l) (ap (drop s) e ∙ drop_at field others s l)

pub rows_in-length : (s m : ℕ) (xs : List ℕ) → length (rows_in s m xs) ≡ m
rows_in-length s zero xs = refl
rows_in-length s (suc m) xs = ap suc (rows_in-length s m (drop s xs))

-- row by row from place p of a file on
pub rows_in_at : (n m p : ℕ) (f : List ℕ) (i : ℕ) (d : Row) → i < m → get_or (rows_in (5 + n) m (drop p f)) i d ≡ row_in (take (2 + n) (drop (p + ((5 + n) * i + 3)) f))
rows_in_at n zero p f i d h = absurd (omega arith)
rows_in_at n (suc m) p f zero d h =
    let t : 3 + (2 + n) ≡ 5 + n = omega arith in
    let k : p + 3 ≡ p + ((5 + n) * 0 + 3) = omega arith in
    ap row_in (ap (λ j. drop 3 (take j (drop p f))) (sym t) ∙ drop-take 3 (2 + n) (drop p f) ∙ ap (take (2 + n)) (drop-drop 3 p f ∙ ap (λ j. drop j f) k))
rows_in_at n (suc m) p f (suc i) d h =
    let k : p + (5 + n) + ((5 + n) * i + 3) ≡ p + ((5 + n) * suc i + 3) = omega (arith, mul-suc (5 + n) i) in
    ap (λ xs. get_or (rows_in (5 + n) m xs) i d) (drop-drop (5 + n) p f) ∙ rows_in_at n m (p + (5 + n)) f i d (omega arith) ∙
    ap (λ j. row_in (take (2 + n) (drop j f))) k

-- so many rows of a file are those that stand there one by one
pub rows_are : (n : ℕ) (f : List ℕ) (rows : List Row) → 6 + (5 + n) * length rows ≡ length f →
    ((i : ℕ) (d : Row) → i < length rows → get_or rows i d ≡ row_in (take (2 + n) (drop (6 + ((5 + n) * i + 3)) f))) → rows_of n f ≡ rows
rows_are n f rows size at =
    let m : (length f - 6) / (5 + n) ≡ length rows = div-eq_of_eq-mul_right (omega arith) (omega arith) in
    let l = rows_in-length (5 + n) (length rows) (drop 6 f) in
    let d : Row = record { call = 0; moment = Moment.Before; nexts = [] } in
    ap (λ k. rows_in (5 + n) k (drop 6 f)) m ∙
    ext_get_or d (rows_in (5 + n) (length rows) (drop 6 f)) rows l (λ i h. rows_in_at n (length rows) 6 f i d (omega arith) ∙ sym (at i d (omega arith)))

-- the rows of a table are those in its file
pub table_rows : (f : List ℕ) (t : Table) → TableFile f t → rows_of t.states f ≡ t.rows
table_rows f t w =
    rows_are t.states f t.rows w.size (λ i d h. w.row i d h ∙ ap (λ j. row_in (take (2 + t.states) (drop j f))) (omega arith))

-- ---- how a row is looked up

pub nexts_shown : (o : Option ReadRow) → option_map (λ r. r.nexts.now) o ≡ option_map (λ r. r.nexts) (option_map shown o)
nexts_shown None = refl
nexts_shown (Some r) = refl

pub row_found : (k : ℕ) (t : Moment) (rows : List Row) → option_map (λ r. r.nexts) (find (row_for k t) rows) ≡ row_of rows k t
row_found k t [] = refl
row_found k t (r ∷ rows) = let h = row_found k t rows in go (row_for k t r) h
  where
    go : (b : Bool) → option_map (λ r. r.nexts) (find (row_for k t) rows) ≡ row_of rows k t →
        option_map (λ r. r.nexts) (cond b (Some r) (find (row_for k t) rows)) ≡ cond b (Some r.nexts) (row_of rows k t)
    go true h = refl
    go false h = h

pub has_any : (k : ℕ) (rows : List Row) → list_any (λ r. eqb r.call k) rows ≡ has_row k rows
has_any k [] = refl
has_any k (r ∷ rows) = ap (λ b. eqb r.call k || b) (has_any k rows)
