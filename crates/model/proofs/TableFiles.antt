-- The file of a state table: what stands where.
use Rattle.std.proofs.Common.{◌≡◌, ℕ, zero, suc, ◌+◌, ◌*◌, ◌<◌, ◌≤◌, true, false, ◌||◌, eqb, ltb, leb, ◌⊎◌, List, [], ◌∷◌, map, length, get_or, take, drop, ℤ, pos, negsuc, is_ok, is_err, Some, None, Ok, Err, sym, refl, ap, ◌∙◌, subst, inl, inr, mul-le-mul_left, mul-zero, mul-suc, arith, length-drop}
use lib.ListN.{length-map}
use Rattle.std.proofs.lemmas.List.{get_or-drop, get_or-take, get_or-map}
use Rattle.std.proofs.lemmas.Bool.{false≢true, eqb-true, eq-eqb, ne_eqb, cases_eq}
use Rattle.model.specs.declared.Moment.{Moment}
use Rattle.model.specs.declared.Refusal.{Refusal}
use Rattle.model.specs.declared.Refusal.TheVariants.{BadPolicyField}
use Rattle.model.specs.Policy.{Showing}
use Rattle.model.specs.Fields.{Read, Field, within, every, next, expect, fields, field, announced, ◌>>=◌}
use Rattle.model.specs.Tables.{Row, Table, row_field, row_in, read_rows, read_table, reads_table, table_in, table_or_refusing, refusing_table, ValidTable}
use Rattle.model.specs.Tables.{table_automaton, table_block, row_of, by_row, from, write_table, table_answer, refusing_rows, RefusesCalls}
use Rattle.model.proofs.Accepted.{err_ok, bound, needed}
use Rattle.model.proofs.Parts.{parts_of_files}
use Rattle.model.proofs.PolicyAccepted.{table_accepted, tested_is, all_four}
use Rattle.model.proofs.TableBlocks.{table_showing}

-- that a table was read
abbrev done : Read Table → Read (Unit {0})
done r = r >>= (λ t. Ok tt)

-- a file that reads, reads as its table
pub read_in : (f : List ℕ) → reads_table f ≡ true → read_table f ≡ Ok (table_in f)
unfolding table_in
read_in f h = go (read_table f) h
  where
    go : (r : Read Table) → is_ok r ≡ true → r ≡ Ok (table_or_refusing r)
    go (Ok t) h = refl
    go (Err x) h = absurd (false≢true h)

pub valid_in : (f : List ℕ) → reads_table f ≡ true → ValidTable (table_in f)
valid_in f h = (table_accepted f (table_in f) (read_in f h)).1

pub table_shown : (f : List ℕ) → reads_table f ≡ true → Showing (table_automaton (table_in f)) (table_block (table_in f))
table_shown f h = table_showing (table_in f) (valid_in f h)

-- rows of tables of n states that stand one behind the other from place p of a file on
pub record Laid (f : List ℕ) (n p : ℕ) (xs : List Field) : Type 0 where
  pub size : p + (5 + n) * length xs ≡ length f
  pub contents : (i : ℕ) (d : Field) → i < length xs → (get_or xs i d).contents ≡ take (2 + n) (drop (p + ((5 + n) * i + 3)) f)
  pub place : (i : ℕ) (d : Field) → i < length xs → (get_or xs i d).place ≡ p + (5 + n) * i

laid_none : (f : List ℕ) (n p : ℕ) → p ≤ length f → [] ≡ drop p f → Laid f n p []
laid_none f n p l e = record {
  size = rw (mul-zero (5 + n)) (omega (arith, ap length e, length-drop p f));
  contents = λ i d h. absurd (omega arith);
  place = λ i d h. absurd (omega arith);
}

laid_more : (f : List ℕ) (n p : ℕ) (x : Field) (xs : List Field) → x.place ≡ p → x.contents ≡ take (2 + n) (drop (p + 3) f) → Laid f n (p + (5 + n)) xs → Laid f n p (x ∷ xs)
laid_more f n p x xs here e rest = record {
  size = rw (mul-suc (5 + n) (length xs)) (omega (arith, rest.size));
  contents = contents;
  place = place;
}
  where
    contents : (i : ℕ) (d : Field) → i < suc (length xs) → (get_or (x ∷ xs) i d).contents ≡ take (2 + n) (drop (p + ((5 + n) * i + 3)) f)
    contents zero d h = let z : p + ((5 + n) * 0 + 3) ≡ p + 3 = omega (arith, mul-zero (5 + n)) in rw z e
    contents (suc i) d h =
        let z : p + (5 + n) + ((5 + n) * i + 3) ≡ p + ((5 + n) * suc i + 3) = omega (arith, mul-suc (5 + n) i) in
        rest.contents i d (omega arith) ∙ ap (λ k. take (2 + n) (drop k f)) z

    place : (i : ℕ) (d : Field) → i < suc (length xs) → (get_or (x ∷ xs) i d).place ≡ p + (5 + n) * i
    place zero d h = omega (arith, mul-zero (5 + n))
    place (suc i) d h = rest.place i d (omega arith) ∙ omega (arith, mul-suc (5 + n) i)

-- the fields behind the head
pub laid_fields : (f : List ℕ) (n m p : ℕ) (r : List ℕ) (xs : List Field) → p ≤ length f → r ≡ drop p f → fields m 98 (row_field n) p r ≡ Ok xs → Laid f n p xs
unfolding fields
laid_fields f n m p [] xs l at e = let z : [] ≡ xs = cc in subst (Laid f n p) z (laid_none f n p l at)
laid_fields f n zero p (b ∷ r) xs l at e = bound _ _ _ e λ x e₁ e₂. absurd (err_ok e₂)
laid_fields f n (suc m) p (b ∷ r) xs l at e =
    bound _ _ _ e λ x e₁ e.
    bound _ _ _ e λ y e₂ e.
    bound _ _ _ e λ ys e₃ e.
    let w = parts_of_files.in_file f BadPolicyField 98 p x (ap (expect BadPolicyField 98 p) (sym at) ∙ e₁) in
    let t = tested_is _ _ _ _ e₂ in
    let a = all_four (eqb (length x.contents) (2 + n)) (leb (get_or x.contents 0 0) 63) (leb (get_or x.contents 1 0) 2)
    (every (λ q. ltb q n || eqb q 255) (drop 2 x.contents)) t.0 in
    let s : length x.contents ≡ 2 + n = eqb-true _ _ a.0 in
    let here = w.place in
    let known : announced f p ≡ 2 + n = sym w.stands.sized ∙ ap length (sym w.contents) ∙ s in
    let j : next x ≡ p + (5 + n) = omega arith in
    let ends = w.stands.ends in
    let rest = laid_fields f n m (next x) x.rest ys (omega arith) w.rest e₃ in
    let c : y.contents ≡ take (2 + n) (drop (p + 3) f) = sym (ap (λ z. z.contents) t.1) ∙ w.contents ∙ ap (λ k. take k (drop (p + 3) f)) known in
    let z : y ∷ ys ≡ xs = cc in
    subst (Laid f n p) z (laid_more f n p y ys (sym (ap (λ z. z.place) t.1)) c (subst (λ k. Laid f n k ys) j rest))

rows_read : (known : List Row) (xs : List Field) (rs : List Row) → read_rows known xs ≡ Ok rs → rs ≡ map (λ x. row_in x.contents) xs
rows_read known [] rs e = cc
rows_read known (x ∷ xs) rs e =
    needed _ _ _ _ e λ t e.
    bound _ _ _ e λ ss e₁ e.
    let rest = rows_read (row_in x.contents ∷ known) xs ss e₁ in
    let z : row_in x.contents ∷ ss ≡ rs = cc in
    sym z ∙ ap (λ ss. row_in x.contents ∷ ss) rest

-- the file of a table, byte by byte
pub record TableFile (f : List ℕ) (t : Table) : Type 0 where
  pub head : 6 ≤ length f
  pub states : t.states ≡ get_or f 4 0
  pub start : t.start ≡ get_or f 5 0
  pub size : 6 + (5 + t.states) * length t.rows ≡ length f
  pub row : (i : ℕ) (d : Row) → i < length t.rows → get_or t.rows i d ≡ row_in (take (2 + t.states) (drop (9 + (5 + t.states) * i) f))

head_byte : (f c : List ℕ) (i : ℕ) → c ≡ take 3 (drop 3 f) → i < 3 → get_or c i 0 ≡ get_or f (3 + i) 0
head_byte f c i e h = ap (λ c. get_or c i 0) e ∙ get_or-take 3 (drop 3 f) i 0 h ∙ get_or-drop 3 f i 0

pub table_file : (f : List ℕ) (t : Table) → read_table f ≡ Ok t → TableFile f t
table_file f t e =
    needed _ _ _ _ e λ short e.
    bound _ _ _ e λ h eh e.
    needed _ _ _ _ e λ th e.
    bound _ _ _ e λ xs ex e.
    bound _ _ _ e λ rs er e.
    let n = get_or h.contents 1 0 in
    let s = get_or h.contents 2 0 in
    let w = parts_of_files.in_file f BadPolicyField 97 0 h eh in
    let a = all_four (eqb (length h.contents) 3) (eqb (get_or h.contents 0 0) 1) (within 1 16 n) (ltb s n) th in
    let three : length h.contents ≡ 3 = eqb-true _ _ a.0 in
    let known : announced f 0 ≡ 3 = sym w.stands.sized ∙ ap length (sym w.contents) ∙ three in
    let c : h.contents ≡ take 3 (drop 3 f) = w.contents ∙ ap (λ k. take k (drop 3 f)) known in
    let here = w.place in
    let ends = w.stands.ends in
    let six : next h ≡ 6 = omega arith in
    let at : h.rest ≡ drop 6 f = w.rest ∙ ap (λ k. drop k f) six in
    let l = laid_fields f n 64 6 h.rest xs (omega arith) at (subst (λ k. fields 64 98 (row_field n) k h.rest ≡ Ok xs) six ex) in
    let r = rows_read [] xs rs er in
    let lr : length rs ≡ length xs = ap length r ∙ length-map xs (λ x. row_in x.contents) in
    let b : Table = record { states = n; start = s; rows = rs } in
    let z : b ≡ t = cc in
    subst (TableFile f) z (record {
      head = omega arith;
      states = head_byte f h.contents 1 c (omega arith);
      start = head_byte f h.contents 2 c (omega arith);
      size = ap (λ k. 6 + (5 + n) * k) lr ∙ l.size;
      row = λ i d hi.
          let x : Field = record { place = 0; contents = [] } in
          ap (λ rs. get_or rs i d) r ∙ get_or-map (λ x. row_in x.contents) xs i x d (omega arith) ∙
          ap row_in (l.contents i x (omega arith) ∙ ap (λ k. take (2 + n) (drop k f)) (omega arith));
    })

pub file_in : (f : List ℕ) → reads_table f ≡ true → TableFile f (table_in f)
file_in f h = table_file f (table_in f) (read_in f h)

-- a row ends inside the file
pub row_ends : (f : List ℕ) (t : Table) → TableFile f t → (i : ℕ) → i < length t.rows → 6 + (5 + t.states) * i + (5 + t.states) ≤ length f
row_ends f t w i h =
    let k = mul-le-mul_left {m = suc i} {n = length t.rows} (5 + t.states) (omega arith) in
    omega (arith, w.size, mul-suc (5 + t.states) i, k)

-- ---- the table that refuses every call

pub refusing_read : read_table (write_table refusing_table) ≡ Ok refusing_table
unfolding ◌>>=◌ expect fields field refusing_table
refusing_read = refl

pub refusing_reads : reads_table (write_table refusing_table) ≡ true
refusing_reads = ap is_ok refusing_read

pub refusing_in : table_in (write_table refusing_table) ≡ refusing_table
unfolding table_in
refusing_in = ap table_or_refusing refusing_read

-- by what check answers
pub reads_by : (f : List ℕ) → Ok tt ≡ table_answer f → reads_table f ≡ true
unfolding ◌>>=◌
reads_by f h = go (read_table f) h
  where
    go : (r : Read Table) → Ok tt ≡ done r → is_ok r ≡ true
    go (Ok t) h = refl
    go (Err x) h = absurd (err_ok (sym h))

pub refused_by : (f : List ℕ) (x : Refusal) → Err x ≡ table_answer f → table_in f ≡ refusing_table
unfolding ◌>>=◌ table_in
refused_by f x h = go (read_table f) h
  where
    go : (r : Read Table) → Err x ≡ done r → table_or_refusing r ≡ refusing_table
    go (Ok t) h = absurd (err_ok h)
    go (Err y) h = refl

refusing_row_of : (k n j : ℕ) → j ≤ k → k < j + n → row_of (refusing_rows n j) k Moment.Before ≡ Some (255 ∷ [])
refusing_row_of k zero j a b = absurd (omega arith)
refusing_row_of k (suc n) j a b = go (cases_eq j k) (refusing_row_of k n (j + 1))
  where
    go : (j ≡ k) ⊎ (j ≡ k → ⊥) → (j + 1 ≤ k → k < j + 1 + n → row_of (refusing_rows n (j + 1)) k Moment.Before ≡ Some (255 ∷ [])) →
        row_of (refusing_rows (suc n) j) k Moment.Before ≡ Some (255 ∷ [])
    go (inl e) ih = rw (eq-eqb j k e)
    go (inr e) ih = rw (ne_eqb j k e) (ih (omega arith) (omega arith))

pub refuses_calls : RefusesCalls (table_automaton refusing_table)
unfolding refusing_table
refuses_calls k args answer c h = ap (by_row c) (refusing_row_of k 64 0 (omega arith) (omega arith)) ∙ go (get_or c 0 (pos 0))
  where
    go : (z : ℤ) → from c (255 ∷ []) z ≡ None
    go (pos zero) = refl
    go (pos (suc v)) = refl
    go (negsuc v) = refl

-- the same, by whether it refuses
pub reads_if : (f : List ℕ) (r : Read (Unit {0})) → r ≡ table_answer f → is_err r ≡ false → reads_table f ≡ true
reads_if f (Ok u) e h = reads_by f e
reads_if f (Err x) e h = absurd (false≢true (sym h))

pub refused_if : (f : List ℕ) (r : Read (Unit {0})) → r ≡ table_answer f → is_err r ≡ true → table_in f ≡ refusing_table
refused_if f (Ok u) e h = absurd (false≢true h)
refused_if f (Err x) e h = refused_by f x e
