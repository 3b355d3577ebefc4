-- The reading of state tables, field by field.
use Rattle.std.proofs.Common.{◌≡◌, ℕ, zero, suc, ◌+◌, ◌-◌, ◌*◌, ◌/◌, ◌<◌, ◌≤◌, Bool, true, false, cond, not, ◌&&◌, ◌||◌, eqb, ltb, List, [], ◌∷◌, ◌++◌, map, length, get_or, take, drop, Some, None, Ok, Err, Option, sym, refl, ap, ◌∙◌, subst, ap₂, add-zero, mul-suc, mul-le-mul_left, zero-add, arith, length-drop}
use lib.ListN.{length-map}
use Rattle.std.proofs.Math.Nat.{mul-div-le, div-le_self}
use Rattle.std.proofs.lemmas.List.{get_or-map, drop_all, drop_more, take_more}
use Rattle.std.proofs.lemmas.List.Folds.{list_any-append}
use Rattle.std.proofs.lemmas.List.FromFn.{length-enumerate_from, get_or-enumerate_from}
use Rattle.std.proofs.lemmas.Iterator.{YieldsList}
use Rattle.std.proofs.lemmas.Iterator.Consumers.{YieldsList-from_first, YieldsList-from_enumerate, YieldsList-turn, YieldsList-end}
use Rattle.std.specs.Iterator.{Yields, YieldsFirstBy}
use Rattle.std.specs.Iterator.Adapters.{enumerate_source, enumerate_count, enumerate_steps}
use Rattle.std.specs.List.{enumerate_from}
use Rattle.std.specs.declared.iter.Enumerate.{Enumerate}
use Rattle.std.proofs.lemmas.List.Recursion.{same_from_clauses}
use Rattle.std.specs.List.{list_all, list_any}
use Rattle.std.proofs.lemmas.Bool.{le-leb, lt-leb, eqb-true, eq-eqb}
use Rattle.model.specs.declared.Refusal.{Refusal}
use Rattle.model.specs.declared.Refusal.TheVariants.{BadPolicyField, BadPolicySize, SecondRow}
use Rattle.model.specs.Fields.{Read, Part, Field, need, within, every, next, announced, expect, fields, ◌>>=◌, ◌>>◌}
use Rattle.model.specs.declared.Moment.{Moment}
use Rattle.model.specs.Tables.{Row, Table, row_in, row_for, row_field, read_rows, table_answer}
use Rattle.model.proofs.Accepted.{err_ok, bound, needed, within_true}
use Rattle.model.proofs.PolicyAccepted.{all_four}
use Rattle.model.proofs.Parts.{parts_of_files}
use Rattle.model.proofs.TableFiles.{Laid, laid_fields}
use Rattle.policy.specs.Pieces.{Found, found, piece_of, due_piece}
use Rattle.policy.proofs.Places.{piece_next}
use Rattle.tables.specs.Reading.{due_contents, row_well, rows_answer, head_well, head_states, apart_from}
use Rattle.tables.specs.declared.row.Row.{Row as ReadRow}
use Rattle.tables.specs.declared.row.Rows.{Rows}
use Rattle.tables.specs.Rows.{shown, rows_of, rows_left}
use Rattle.tables.proofs.TableRows.{rows_in-length, rows_are}
use Rattle.policy.proofs.Asked.{clash, same}

-- ---- the field that is due

-- the contents of a field that was read, and why one was refused
pub told_contents : (r : Read Part) (c : List ℕ) (n : ℕ) → Ok (record { contents = c; next = n }) ≡ piece_of r → Ok c ≡ (r >>= (λ m. Ok m.contents))
unfolding ◌>>=◌
told_contents (Ok m) c n e =
    let z : ◌≡◌ {A = Found} (record { contents = c; next = n }) (found m) = cc in
    ap (λ x. Ok x.contents) z
told_contents (Err x) c n e = absurd (err_ok (sym e))

pub told_refusal : (r : Read Part) (x : Refusal) → Err x ≡ piece_of r → Err x ≡ (r >>= (λ m. Ok m.contents))
unfolding ◌>>=◌
told_refusal (Ok m) x e = absurd (err_ok e)
told_refusal (Err y) x e = let z : x ≡ y = cc in ap Err z

-- a field that was read, whole
pub whole : (tag p : ℕ) (f c : List ℕ) → Ok c ≡ due_contents tag p f →
    (m : Part) × (expect BadPolicyField tag p (drop p f) ≡ Ok m) × (m.contents ≡ c) × (next m ≡ p + (3 + length c)) × (m.rest ≡ drop (p + (3 + length c)) f) × (p + (3 + length c) ≤ length f)
whole tag p f c h =
    bound _ _ _ (sym h) λ m e₁ e₂.
    let w = parts_of_files.in_file f BadPolicyField tag p m e₁ in
    let z : m.contents ≡ c = cc in
    let j : next m ≡ p + (3 + length c) = ap₂ (λ a b. a + (3 + b)) w.place (ap length z) in
    let k : length c ≡ announced f p = ap length (sym z ∙ w.contents) ∙ w.stands.sized in
    let ends = w.stands.ends in
    (m, e₁, z, j, w.rest ∙ ap (λ i. drop i f) j, omega arith)

-- ---- rows

-- that rows were read
abbrev done : Read (List Field) → Read (Unit {0})
done r = r >>= (λ xs. Ok tt)

-- a field that is refused, whatever was to follow
under : (x : Refusal) (r : Read Part) (k : Part → Read (List Field)) → Err x ≡ (r >>= (λ y. Ok y.contents)) → Err x ≡ done (r >>= k)
unfolding ◌>>=◌
under x (Ok y) k h = clash h
under x (Err r) k h = let z : x ≡ r = cc in ap Err z

module _ (n p : ℕ) (f : List ℕ) where
  pub rows_end : (m : ℕ) → length f ≤ p → Ok tt ≡ rows_answer m n p f
  unfolding ◌>>=◌ fields
  rows_end m h = rw (drop_all p f h)

  pub rows_broken : (m : ℕ) (x : Refusal) → p < length f → Err x ≡ due_contents 98 p f → Err x ≡ rows_answer m n p f
  unfolding fields
  rows_broken m x l h = go m (drop p f) (length-drop p f) h
    where
      go : (m : ℕ) (r : List ℕ) → length r ≡ length f - p → Err x ≡ (expect BadPolicyField 98 p r >>= (λ y. Ok y.contents)) → Err x ≡ done (fields m 98 (row_field n) p r)
      go m [] z h = absurd (omega arith)
      go zero (b ∷ r) z h = under x (expect BadPolicyField 98 p (b ∷ r)) _ h
      go (suc m) (b ∷ r) z h = under x (expect BadPolicyField 98 p (b ∷ r)) _ h

  module _ (c : List ℕ) (h : Ok c ≡ due_contents 98 p f) where
    -- no more rows
    pub rows_many : p < length f → Err (BadPolicySize p) ≡ rows_answer 0 n p f
    unfolding ◌>>=◌ fields
    rows_many l = go (drop p f) (length-drop p f) w.1
      where
        w : (m : Part) × (expect BadPolicyField 98 p (drop p f) ≡ Ok m) × (m.contents ≡ c) × (next m ≡ p + (3 + length c)) × (m.rest ≡ drop (p + (3 + length c)) f) × (p + (3 + length c) ≤ length f)
        w = whole 98 p f c h

        go : (r : List ℕ) → length r ≡ length f - p → expect BadPolicyField 98 p r ≡ Ok w.0 → Err (BadPolicySize p) ≡ done (fields 0 98 (row_field n) p r)
        go [] z e = absurd (omega arith)
        go (b ∷ r) z e = rw e

    -- a row that is not as it should be
    pub rows_bad : (m : ℕ) → p < length f → row_well n c ≡ false → Err (BadPolicySize p) ≡ rows_answer m n p f
    unfolding ◌>>=◌ fields
    rows_bad zero l y = rows_many l
    rows_bad (suc m) l y = go (drop p f) (length-drop p f) w.1
      where
        w : (m : Part) × (expect BadPolicyField 98 p (drop p f) ≡ Ok m) × (m.contents ≡ c) × (next m ≡ p + (3 + length c)) × (m.rest ≡ drop (p + (3 + length c)) f) × (p + (3 + length c) ≤ length f)
        w = whole 98 p f c h

        y' : row_well n w.0.contents ≡ false
        y' = ap (row_well n) w.2 ∙ y

        go : (r : List ℕ) → length r ≡ length f - p → expect BadPolicyField 98 p r ≡ Ok w.0 → Err (BadPolicySize p) ≡ done (fields (suc m) 98 (row_field n) p r)
        go [] z e = absurd (omega arith)
        go (b ∷ r) z e = rw (e, y')

    -- a row, and then the rest
    pub rows_more : (m : ℕ) → p < length f → row_well n c ≡ true → rows_answer (suc m) n p f ≡ rows_answer m n (p + (3 + length c)) f
    unfolding ◌>>=◌ fields
    rows_more m l y = go (drop p f) (length-drop p f) w.1
      where
        w : (m : Part) × (expect BadPolicyField 98 p (drop p f) ≡ Ok m) × (m.contents ≡ c) × (next m ≡ p + (3 + length c)) × (m.rest ≡ drop (p + (3 + length c)) f) × (p + (3 + length c) ≤ length f)
        w = whole 98 p f c h

        y' : row_well n w.0.contents ≡ true
        y' = ap (row_well n) w.2 ∙ y

        kept : (x : Field) (r : Read (List Field)) → done (r >>= (λ ys. Ok (x ∷ ys))) ≡ done r
        kept x (Ok ys) = refl
        kept x (Err e) = refl

        go : (r : List ℕ) → length r ≡ length f - p → expect BadPolicyField 98 p r ≡ Ok w.0 → done (fields (suc m) 98 (row_field n) p r) ≡ rows_answer m n (p + (3 + length c)) f
        go [] z e = absurd (omega arith)
        go (b ∷ r) z e = rw (e, y') (kept _ (fields m 98 (row_field n) (next w.0) w.0.rest) ∙ ap₂ (λ q s. done (fields m 98 (row_field n) q s)) w.3 w.4)

-- the same, by what the field reader hands out of a holder g, which is the file
module _ (n p : ℕ) (f g : List ℕ) (tag : ℕ) (held : g ≡ f) (row : tag ≡ 98) (l : p < length g) where
  pub row_refused : (m : ℕ) (x : Refusal) → Err x ≡ due_piece tag p g → Err x ≡ rows_answer m n p f
  row_refused m x e = rows_broken n p f m x (rw held at l) (told_refusal _ x (rw (held, row) at e))

  module _ (c : List ℕ) (next : ℕ) (e : Ok (record { contents = c; next = next }) ≡ due_piece tag p g) where
    pub row_many : Err (BadPolicySize p) ≡ rows_answer 0 n p f
    row_many = rows_many n p f c (told_contents _ c next (rw (held, row) at e)) (rw held at l)

    pub row_bad : (m : ℕ) → row_well n c ≡ false → Err (BadPolicySize p) ≡ rows_answer m n p f
    row_bad m y = rows_bad n p f c (told_contents _ c next (rw (held, row) at e)) m (rw held at l) y

    pub row_more : (m : ℕ) → row_well n c ≡ true → rows_answer (suc m) n p f ≡ rows_answer m n next f
    row_more m y =
        rows_more n p f c (told_contents _ c next (rw (held, row) at e)) m (rw held at l) y ∙
        ap (λ q. rows_answer m n q f) (sym (piece_next f 98 p c next (rw (held, row) at e)))

-- ---- the head

-- the number of states, by the head's contents
abbrev states_by : Read (List ℕ) → Read ℕ
states_by r = r >>= (λ c. need (head_well c) (BadPolicySize 0) >> Ok (get_or c 1 0))

module _ (f : List ℕ) where
  pub head_broken : (x : Refusal) → Err x ≡ due_contents 97 0 f → Err x ≡ head_states f
  unfolding ◌>>=◌
  head_broken x h = subst (λ r. Err x ≡ states_by r) h refl

  pub head_bad : (c : List ℕ) → Ok c ≡ due_contents 97 0 f → head_well c ≡ false → Err (BadPolicySize 0) ≡ head_states f
  unfolding ◌>>=◌
  head_bad c h y = subst (λ r. Err (BadPolicySize 0) ≡ states_by r) h (rw y)

  pub head_good : (c : List ℕ) → Ok c ≡ due_contents 97 0 f → head_well c ≡ true → Ok (get_or c 1 0) ≡ head_states f
  unfolding ◌>>=◌
  head_good c h y = subst (λ r. Ok (get_or c 1 0) ≡ states_by r) h (rw y)

-- ---- a row

abbrev pub known_state : ℕ → ℕ → Bool
known_state n q = ltb q n || eqb q 255

pub row_well_by : (n : ℕ) (c : List ℕ) (b : Bool) → length c ≡ 2 + n → get_or c 0 0 ≤ 63 → get_or c 1 0 ≤ 2 → b ≡ list_all (known_state n) (drop 2 c) → b ≡ row_well n c
row_well_by n c b l h k e =
    e ∙ same_from_clauses (list_all (known_state n)) (every (known_state n)) (λ q t. known_state n q && t) refl (λ _ _. refl) (λ _ _. refl) (drop 2 c) ∙
    rw (eq-eqb (length c) (2 + n) l, le-leb (get_or c 0 0) 63 h, le-leb (get_or c 1 0) 2 k)

-- ---- rows that are for calls and moments of their own

module _ (n i : ℕ) (rows : List Row) where
  pub apart_end : length rows ≤ i → Ok tt ≡ apart_from n i (take i rows) (drop i rows)
  apart_end h = rw (drop_all i rows h)

  module _ (r : Row) (h : i < length rows) (e : r ≡ get_or rows i r) where
    here : (b : Bool) → list_any (row_for r.call r.moment) (take i rows) ≡ b →
        apart_from n i (take i rows) (drop i rows) ≡ cond b (Err (SecondRow (6 + (5 + n) * i))) (apart_from n (i + 1) (take (i + 1) rows) (drop (i + 1) rows))
    here b y =
        let t : take (i + 1) rows ≡ take i rows ++ r ∷ [] = take_more rows i r h ∙ ap (λ x. take i rows ++ x ∷ []) (sym e) in
        ap (apart_from n i (take i rows)) (drop_more rows i r h ∙ ap (λ x. x ∷ drop (i + 1) rows) (sym e)) ∙
        ap₂ (λ b before. cond b (Err (SecondRow (6 + (5 + n) * i))) (apart_from n (i + 1) before (drop (i + 1) rows))) y (sym t)

    pub apart_more : false ≡ list_any (row_for r.call r.moment) (take i rows) →
        apart_from n i (take i rows) (drop i rows) ≡ apart_from n (i + 1) (take (i + 1) rows) (drop (i + 1) rows)
    apart_more y = here false (sym y)

    pub apart_second : true ≡ list_any (row_for r.call r.moment) (take i rows) → Err (SecondRow (6 + (5 + n) * i)) ≡ apart_from n i (take i rows) (drop i rows)
    apart_second y = sym (here true (sym y))

module _ (start : Enumerate Rows) (rows : List Row) (e : rows_left (enumerate_source start) ≡ rows) (z : enumerate_count start ≡ 0) where
  -- the rows with their numbers
  pub numbered : YieldsList {B = ℕ × Row} (enumerate_steps (YieldsFirstBy shown rows_left)) (λ p. (p.0, shown p.1)) start (enumerate_from 0 rows)
  numbered = YieldsList-from_enumerate (YieldsList-from_first shown rows_left rows e) z

  -- a row that comes with its number
  pub numbered_turn : (ys : List (ℕ × ReadRow)) (s : Enumerate Rows) → Yields (enumerate_steps (YieldsFirstBy shown rows_left)) start ys s →
      (o : Option (ℕ × ReadRow)) (t : Enumerate Rows) (i : ℕ) (r : ReadRow) → o ≡ Some (i, r) → enumerate_steps (YieldsFirstBy shown rows_left) s o t →
      (length ys < length rows) × (i ≡ length ys) × (shown r ≡ get_or rows (length ys) (shown r))
  numbered_turn ys s y o t i r is step =
      let h = YieldsList-turn numbered ys s y o t (i, r) is step in
      let l : length ys < length rows = omega (arith, length-enumerate_from 0 rows, h.0) in
      let e = h.1 ∙ get_or-enumerate_from 0 rows (length ys) (i, shown r) l in
      (l, ap (λ p. p.0) e ∙ zero-add (length ys), ap (λ p. p.1) e)

  pub numbered_end : (ys : List (ℕ × ReadRow)) (s : Enumerate Rows) → Yields (enumerate_steps (YieldsFirstBy shown rows_left)) start ys s →
      (o : Option (ℕ × ReadRow)) (t : Enumerate Rows) → o ≡ None → enumerate_steps (YieldsFirstBy shown rows_left) s o t → length rows ≤ length ys
  numbered_end ys s y o t is step = omega (arith, (YieldsList-end numbered ys s y o t is step).1, length-enumerate_from 0 rows)

-- so many rows as there is room for lie in the file
pub row_room : (n i : ℕ) (f : List ℕ) → 6 ≤ length f → i < length (rows_of n f) → 6 + (5 + n) * i + (5 + n) ≤ length f
row_room n i f h l =
    omega (
      arith,
      rows_in-length (5 + n) ((length f - 6) / (5 + n)) (drop 6 f),
      mul-suc (5 + n) i,
      mul-le-mul_left {m = suc i} {n = (length f - 6) / (5 + n)} (5 + n) (omega (arith, rows_in-length (5 + n) ((length f - 6) / (5 + n)) (drop 6 f))),
      mul-div-le (length f - 6) (5 + n),
    )

-- there are no more rows than bytes
pub rows_few : (n : ℕ) (f : List ℕ) → length (rows_of n f) ≤ length f
rows_few n f = omega (arith, rows_in-length (5 + n) ((length f - 6) / (5 + n)) (drop 6 f), div-le_self (length f - 6) (5 + n))

-- that rows were told apart
abbrev told_apart : Read (List Row) → Read (Unit {0})
told_apart r = r >>= (λ rs. Ok tt)

-- a row that is read, the rows before being known
read_row : (r : Row) (any : Bool) (q : ℕ) (rest : Read (List Row)) (other : Read (Unit {0})) → told_apart rest ≡ other →
    told_apart (need (not any) (SecondRow q) >>= (λ u. rest >>= (λ rs. Ok (r ∷ rs)))) ≡ cond any (Err (SecondRow q)) other
unfolding ◌>>=◌
read_row r false q (Ok rs) other e = e
read_row r false q (Err x) other e = e
read_row r true q rest other e = refl

-- two lists of rows known before, that are for the same calls and moments
abbrev SameRows : List Row → List Row → Type 0
SameRows known before = (k : ℕ) (t : Moment) → every (λ s. not (row_for k t s)) known ≡ not (list_any (row_for k t) before)

same_more : (known before : List Row) (r : Row) → SameRows known before → SameRows (r ∷ known) (before ++ r ∷ [])
same_more known before r h k t =
    ap (λ b. not (row_for k t r) && b) (h k t) ∙ both (row_for k t r) (list_any (row_for k t) before) ∙ ap not (sym (list_any-append (row_for k t) before (r ∷ [])))
  where
    both : (b a : Bool) → (not b && not a) ≡ not (a || (b || false))
    both true true = refl
    both true false = refl
    both false true = refl
    both false false = refl

apart_rows : (n i : ℕ) (known before : List Row) (xs : List Field) → SameRows known before → ((j : ℕ) (d : Field) → j < length xs → (get_or xs j d).place ≡ 6 + (5 + n) * (i + j)) →
    told_apart (read_rows known xs) ≡ apart_from n i before (map (λ x. row_in x.contents) xs)
unfolding ◌>>=◌
apart_rows n i known before [] h p = refl
apart_rows n i known before (x ∷ xs) h p =
    let r = row_in x.contents in
    let q : x.place ≡ 6 + (5 + n) * i = p 0 x (omega arith) ∙ ap (λ m. 6 + (5 + n) * m) (add-zero i) in
    let ih = apart_rows n (i + 1) (r ∷ known) (before ++ r ∷ []) xs (same_more known before r h)
    (λ j d l. p (suc j) d (omega arith) ∙ ap (λ m. 6 + (5 + n) * m) (omega arith)) in
    ap (λ b. told_apart (need b (SecondRow x.place) >>= (λ u. read_rows (r ∷ known) xs >>= (λ rs. Ok (r ∷ rs))))) (h r.call r.moment) ∙
    read_row r _ x.place (read_rows (r ∷ known) xs) _ ih ∙
    ap (λ p. cond (list_any (row_for r.call r.moment) before) (Err (SecondRow p)) (apart_from n (i + 1) (before ++ r ∷ []) (map (λ x. row_in x.contents) xs))) q

-- ---- the whole file

-- the head of a file that has one
pub head_is : (f : List ℕ) (n : ℕ) → Ok n ≡ head_states f →
    (h : Part) × (expect BadPolicyField 97 0 f ≡ Ok h) × (head_well h.contents ≡ true) × (get_or h.contents 1 0 ≡ n) × (next h ≡ 6) × (h.rest ≡ drop 6 f) × (6 ≤ length f) × (n ≤ 16)
head_is f n e =
    bound _ _ _ (sym e) λ c e₁ e.
    needed _ _ _ _ e λ y e.
    let w = whole 97 0 f c (sym e₁) in
    let t = all_four (eqb (length c) 3) (eqb (get_or c 0 0) 1) (within 1 16 (get_or c 1 0)) (ltb (get_or c 2 0) (get_or c 1 0)) y in
    let l : length c ≡ 3 = eqb-true _ _ t.0 in
    let z : get_or c 1 0 ≡ n = cc in
    let k : 0 + (3 + length c) ≡ 6 = omega arith in
    (w.0, w.1, ap head_well w.2 ∙ y, ap (λ c. get_or c 1 0) w.2 ∙ z, w.3 ∙ k, w.4 ∙ ap (λ i. drop i f) k, omega (arith, w.5), omega (arith, within_true 1 16 (get_or c 1 0) t.2))

module _ (f : List ℕ) where
  pub answer_long : 65535 < length f → Err (BadPolicyField 0) ≡ table_answer f
  unfolding ◌>>=◌
  answer_long h = rw (lt-leb (length f) 65535 h)

  module _ (short : length f ≤ 65535) where
    pub answer_head : (x : Refusal) → Err x ≡ head_states f → Err x ≡ table_answer f
    unfolding ◌>>=◌
    answer_head x e = rw (le-leb (length f) 65535 short) (go (expect BadPolicyField 97 0 f) e)
      where
        told_table : Read Table → Read (Unit {0})
        told_table r = r >>= (λ t. Ok tt)

        rest : Part → Read Table
        rest h = need (head_well h.contents) (BadPolicySize 0) >> (fields 64 98 (row_field (get_or h.contents 1 0)) (next h) h.rest >>= (λ xs. read_rows [] xs >>= (λ rs.
            Ok (record { states = get_or h.contents 1 0; start = get_or h.contents 2 0; rows = rs }))))

        by : (b : Bool) (n : ℕ) (r : Read Table) → Err x ≡ (need b (BadPolicySize 0) >> Ok n) → Err x ≡ told_table (need b (BadPolicySize 0) >> r)
        by true n r e = clash e
        by false n r e = same e

        go : (r : Read Part) → Err x ≡ states_by (r >>= (λ m. Ok m.contents)) → Err x ≡ told_table (r >>= rest)
        go (Ok h) e = by (head_well h.contents) (get_or h.contents 1 0) _ e
        go (Err y) e = same e

-- a table of its parts
abbrev table_by : ℕ → ℕ → List Row → Table
table_by m s rs = record { states = m; start = s; rows = rs }

-- what the fields of rows come to
abbrev told_rows : ℕ → ℕ → Read (List Field) → Read (Unit {0})
told_rows m s r = (r >>= (λ xs. read_rows [] xs >>= (λ rs. Ok (table_by m s rs)))) >>= (λ t. Ok tt)

-- what rows come to
abbrev told_table : ℕ → ℕ → Read (List Row) → Read (Unit {0})
told_table m s r = (r >>= (λ rs. Ok (table_by m s rs))) >>= (λ t. Ok tt)

module _ (f : List ℕ) (short : length f ≤ 65535) (n : ℕ) (e : Ok n ≡ head_states f) where
  head : (h : Part) × (expect BadPolicyField 97 0 f ≡ Ok h) × (head_well h.contents ≡ true) × (get_or h.contents 1 0 ≡ n) × (next h ≡ 6) × (h.rest ≡ drop 6 f) × (6 ≤ length f) × (n ≤ 16)
  head = head_is f n e

  answer_is : table_answer f ≡ told_rows (get_or head.0.contents 1 0) (get_or head.0.contents 2 0) (fields 64 98 (row_field n) 6 (drop 6 f))
  unfolding ◌>>=◌
  answer_is =
      rw (le-leb (length f) 65535 short, head.1, head.2)
      (λ i. told_rows (get_or head.0.contents 1 0) (get_or head.0.contents 2 0) (fields 64 98 (row_field (head.3 i)) (head.4 i) (head.5 i)))

  pub answer_rows : (x : Refusal) → Err x ≡ rows_answer 64 n 6 f → Err x ≡ table_answer f
  unfolding ◌>>=◌
  answer_rows x h = go (fields 64 98 (row_field n) 6 (drop 6 f)) h ∙ sym answer_is
    where
      go : (r : Read (List Field)) → Err x ≡ done r → Err x ≡ told_rows (get_or head.0.contents 1 0) (get_or head.0.contents 2 0) r
      go (Ok xs) h = clash h
      go (Err y) h = h

  pub answer_apart : Ok tt ≡ rows_answer 64 n 6 f → apart_from n 0 [] (rows_of n f) ≡ table_answer f
  unfolding ◌>>=◌
  answer_apart h = go (fields 64 98 (row_field n) 6 (drop 6 f)) refl h ∙ sym answer_is
    where
      kept : (m s : ℕ) (r : Read (List Row)) → told_apart r ≡ told_table m s r
      kept m s (Ok rs) = refl
      kept m s (Err y) = refl

      apart : (xs : List Field) → Laid f n 6 xs → apart_from n 0 [] (rows_of n f) ≡ told_apart (read_rows [] xs)
      apart xs l =
          let read : List Row = map (λ x. row_in x.contents) xs in
          let long : length read ≡ length xs = length-map xs (λ x. row_in x.contents) in
          let x : Field = record { place = 0; contents = [] } in
          ap (apart_from n 0 [])
          (rows_are n f read (ap (λ m. 6 + (5 + n) * m) long ∙ l.size)
          (λ j d k. get_or-map (λ x. row_in x.contents) xs j x d (omega arith) ∙ ap row_in (l.contents j x (omega arith)))) ∙
          sym (apart_rows n 0 [] [] xs (λ k t. refl) (λ j d k. l.place j d k ∙ omega (arith, ap (λ m. (5 + n) * m) (zero-add j))))

      go : (r : Read (List Field)) → fields 64 98 (row_field n) 6 (drop 6 f) ≡ r → Ok tt ≡ done r →
          apart_from n 0 [] (rows_of n f) ≡ told_rows (get_or head.0.contents 1 0) (get_or head.0.contents 2 0) r
      go (Ok xs) q h = apart xs (laid_fields f n 64 6 (drop 6 f) xs head.6 refl q) ∙ kept (get_or head.0.contents 1 0) (get_or head.0.contents 2 0) (read_rows [] xs)
      go (Err y) q h = clash (sym h)
