-- The blocks of a table do what its step says.
use Rattle.std.proofs.Common.{◌≡◌, ℕ, suc, ◌+◌, ◌-◌, ◌<◌, ◌≤◌, Bool, true, false, cond, not, ◌&&◌, eqb, ◌⊎◌, List, [], ◌∷◌, ◌++◌, length, get_or, set, ℤ, pos, negsuc, Some, None, Option, sym, refl, ap, ◌∙◌, inl, inr, ⊎_elim, add-zero, arith, length-set}
use mathlib.Core.Path.{subst⁻¹}
use Rattle.std.specs.List.{AllByRecursion}
use Rattle.std.proofs.lemmas.Bool.{or_parts, eq-eqb, ne_eqb, cond_both, and_right, cases_eq}
use Rattle.model.specs.declared.Moment.{Moment}
use Rattle.model.specs.declared.Test.{Test}
use Rattle.model.specs.declared.Test.TheVariants.{Skip, Skz, Mset, Mcell, Store, Op}
use Rattle.model.specs.Policy.{Showing, exec, reached, stopped, Ran, End, end, due, eqZ, flag}
use Rattle.model.specs.Tables.{Row, Table, row_for, row_of, moved_to, from, by_row, has_row, table_automaton, states_block, row_block, table_block}
use Rattle.model.specs.Tables.{ValidRow, ValidTable}
use Rattle.std.proofs.lemmas.Option.{none-some}
use Rattle.std.proofs.ByRecursion.{All-weaker}
use Rattle.model.proofs.Tidy.{Tidy, tidy_formed, tidy_enclosed, tidy_states}
use Rattle.model.proofs.BlockRuns.{skip_all, skz, getD_own, set_own}
use Rattle.model.specs.declared.Operator.TheVariants.{Equal}

-- the next state that the block finds for the value z, from state q on
abbrev found : ℕ → List ℕ → ℤ → Option ℕ
found q [] z = None
found q (n ∷ ns) z = cond (not (eqb n 255) && eqZ z (pos q)) (Some n) (found (q + 1) ns z)

-- where a block leaves the state, by what it finds
abbrev Landed : Ran → List ℤ → ℕ → Option ℕ → Type 0
Landed r s f None = r ≡ stopped
Landed r s f (Some n) = (m : List ℤ) × (r ≡ reached (set s f (pos n)) m)

module _ (a : List ℤ) (f : ℕ) (s : List ℤ) where
  one_state : (q n : ℕ) (rest : List Test) (o : Option ℕ) (x y : ℤ) (r : List ℤ) → ((x y : ℤ) → Landed (exec a 0 rest s (x ∷ y ∷ r)) s f o) →
      (t : Bool) → eqZ (get_or s f (pos 0)) (pos q) ≡ t →
      Landed (exec a 0 (Mcell 0 f ∷ Mset 1 (pos q) ∷ Op 0 Equal ∷ Skz 0 3 ∷ Mset 0 (pos n) ∷ Store 0 f ∷ Skip (length rest) ∷ rest) s (x ∷ y ∷ r)) s
      f (cond t (Some n) o)
  one_state q n rest o x y r ih true e = subst⁻¹ (λ r. Landed r s f (Some n))
      (skz a 0 3 (Mset 0 (pos n) ∷ Store 0 f ∷ Skip (length rest) ∷ rest) s (flag (eqZ (get_or s f (pos 0)) (pos q)) ∷ pos q ∷ r) false
      (ap (λ t. eqZ (flag t) (pos 0)) e)) (_, skip_all a rest _ _)
  one_state q n rest o x y r ih false e = subst⁻¹ (λ r. Landed r s f o)
      (skz a 0 3 (Mset 0 (pos n) ∷ Store 0 f ∷ Skip (length rest) ∷ rest) s (flag (eqZ (get_or s f (pos 0)) (pos q)) ∷ pos q ∷ r) true
      (ap (λ t. eqZ (flag t) (pos 0)) e)) (ih _ _)

  states_run : (q : ℕ) (ns : List ℕ) (x y : ℤ) (r : List ℤ) → Landed (exec a 0 (states_block f q ns) s (x ∷ y ∷ r)) s f (found q ns (get_or s f (pos 0)))
  states_run q [] x y r = refl
  states_run q (n ∷ ns) x y r = either (eqb n 255) (λ x y. states_run (q + 1) ns x y r)
    where
      either : (b : Bool) → ((x y : ℤ) → Landed (exec a 0 (states_block f (q + 1) ns) s (x ∷ y ∷ r)) s f (found (q + 1) ns (get_or s f (pos 0)))) →
          Landed (exec a 0 (cond b (states_block f (q + 1) ns)
          (Mcell 0 f ∷ Mset 1 (pos q) ∷ Op 0 Equal ∷ Skz 0 3 ∷ Mset 0 (pos n) ∷ Store 0 f ∷ Skip
          (length (states_block f (q + 1) ns)) ∷ states_block f (q + 1) ns)) s (x ∷ y ∷ r)) s f
          (cond (not b && eqZ (get_or s f (pos 0)) (pos q)) (Some n) (found (q + 1) ns (get_or s f (pos 0))))
      either true ih = ih x y
      either false ih = one_state q n (states_block f (q + 1) ns) _ x y r ih _ refl

-- what the block finds is what the row has
found_none : (q : ℕ) (ns : List ℕ) (z : ℤ) → ((k : ℕ) → q ≤ k → eqZ z (pos k) ≡ false) → found q ns z ≡ None
found_none q [] z h = refl
found_none q (n ∷ ns) z h = rw (and_right (not (eqb n 255)) (eqZ z (pos q)) (h q (omega arith))) (found_none (q + 1) ns z (λ k l. h k (omega arith)))

-- the cells with the state that was found
abbrev cells_of : List ℤ → Option ℕ → Option (List ℤ)
cells_of c None = None
cells_of c (Some n) = Some (set c 0 (pos n))

found_here : (c : List ℤ) (n : ℕ) (b : Bool) (o : Option ℕ) → o ≡ None → cells_of c (cond (not b && true) (Some n) o) ≡ cond b None (Some (set c 0 (pos n)))
found_here c n true o e = ap (cells_of c) e
found_here c n false o e = refl

found_pos : (c : List ℤ) (q : ℕ) (ns : List ℕ) (v : ℕ) → q ≤ v → cells_of c (found q ns (pos v)) ≡ moved_to c (get_or ns (v - q) 255)
found_pos c q [] v h = refl
found_pos c q (n ∷ ns) v h = ⊎_elim here (there (found_pos c (q + 1) ns v)) (cases_eq v q)
  where
    here : v ≡ q → cells_of c (found q (n ∷ ns) (pos v)) ≡ moved_to c (get_or (n ∷ ns) (v - q) 255)
    here e = let z : v - q ≡ 0 = omega arith in rw (eq-eqb v q e, z)
        (found_here c n (eqb n 255) (found (q + 1) ns (pos v)) (found_none (q + 1) ns (pos v) (λ k l. ne_eqb v k (λ i. omega arith))))

    there : (q + 1 ≤ v → cells_of c (found (q + 1) ns (pos v)) ≡ moved_to c (get_or ns (v - (q + 1)) 255)) → (v ≡ q → ⊥) →
        cells_of c (found q (n ∷ ns) (pos v)) ≡ moved_to c (get_or (n ∷ ns) (v - q) 255)
    there ih e = let z : v - q ≡ suc (v - (q + 1)) = omega arith in rw (and_right (not (eqb n 255)) (eqb v q) (ne_eqb v q e), z) (ih (omega arith))

found_is : (c : List ℤ) (ns : List ℕ) (z : ℤ) → cells_of c (found 0 ns z) ≡ from c ns z
found_is c ns (pos v) = found_pos c 0 ns v (omega arith) ∙ ap (λ k. moved_to c (get_or ns k 255)) (omega arith)
found_is c ns (negsuc v) = ap (cells_of c) (found_none 0 ns (negsuc v) (λ k l. refl))

-- the block of a row
landed_due : (x : Ran) (l c r : List ℤ) (f : ℕ) (o : Option ℕ) → length l ≡ f → length c ≡ 1 → Landed x (l ++ (c ++ r)) f o → end x ≡ due l r (cells_of c o)
landed_due x l c r f None lf lc k = ap end k
landed_due x l c r f (Some n) lf lc k = ap end k.1 ∙ ap End.cells
    (ap (λ i. set (l ++ (c ++ r)) i (pos n)) (sym (add-zero f)) ∙ set_own l r f lf c 0 (pos n) (omega arith))

row_runs : (a : List ℤ) (f : ℕ) (l c r m : List ℤ) (o : Option (List ℕ)) → length l ≡ f → length c ≡ 1 → length m ≡ 8 →
    end (exec a 0 (row_block f o) (l ++ (c ++ r)) m) ≡ due l r (by_row c o)
row_runs a f l c r m None lf lc lm = refl
row_runs a f l c r [] (Some ns) lf lc lm = absurd (omega arith)
row_runs a f l c r (x ∷ []) (Some ns) lf lc lm = absurd (omega arith)
row_runs a f l c r (x ∷ y ∷ m) (Some ns) lf lc lm =
    let s = l ++ (c ++ r) in
    let z : get_or s f (pos 0) ≡ get_or c 0 (pos 0) = ap (λ i. get_or s i (pos 0)) (sym (add-zero f)) ∙ getD_own l r f lf c 0 (pos 0) (omega arith) in
    landed_due _ l c r f (found 0 ns (get_or s f (pos 0))) lf lc (states_run a f s 0 ns x y m) ∙ ap (due l r)
    (ap (λ v. cells_of c (found 0 ns v)) z ∙ found_is c ns (get_or c 0 (pos 0)))

-- what a table owes
keeps_row : (c : List ℤ) (o : Option (List ℕ)) (d : List ℤ) → by_row c o ≡ Some d → length d ≡ length c
keeps_row c None d e = let z : c ≡ d = cc in ap length (sym z)
keeps_row c (Some ns) d e = go (get_or c 0 (pos 0)) e
  where
    go : (z : ℤ) → from c ns z ≡ Some d → length d ≡ length c
    go (pos v) e = cond_both (eqb (get_or ns v 255) 255) None (Some (set c 0 (pos (get_or ns v 255)))) (λ x. x ≡ Some d → length d ≡ length c)
        (λ t q. absurd (none-some _ q)) (λ t q. let z : set c 0 (pos (get_or ns v 255)) ≡ d = cc in ap length (sym z) ∙ length-set c 0 (pos (get_or ns v 255))) e
    go (negsuc v) e = absurd (none-some _ e)

no_row : (k : ℕ) (t : Moment) (rs : List Row) → has_row k rs ≡ false → row_of rs k t ≡ None
no_row k t [] h = refl
no_row k t (r ∷ rs) h = let p = or_parts (eqb r.call k) (has_row k rs) h in rw p.0 (no_row k t rs p.1)

states_placed : (f g q : ℕ) (ns : List ℕ) → length (states_block f q ns) ≡ length (states_block g q ns)
states_placed f g q [] = refl
states_placed f g q (n ∷ ns) = let h = states_placed f g (q + 1) ns in go (eqb n 255) h
  where
    go : (b : Bool) → length (states_block f (q + 1) ns) ≡ length (states_block g (q + 1) ns) →
        length (cond b (states_block f (q + 1) ns)
        (Mcell 0 f ∷ Mset 1 (pos q) ∷ Op 0 Equal ∷ Skz 0 3 ∷ Mset 0 (pos n) ∷ Store 0 f ∷ Skip (length (states_block f (q + 1) ns)) ∷ states_block f
        (q + 1) ns)) ≡
        length (cond b (states_block g (q + 1) ns)
        (Mcell 0 g ∷ Mset 1 (pos q) ∷ Op 0 Equal ∷ Skz 0 3 ∷ Mset 0 (pos n) ∷ Store 0 g ∷ Skip (length (states_block g (q + 1) ns)) ∷ states_block g
        (q + 1) ns))
    go true h = h
    go false h = omega arith

placed_row : (f g : ℕ) (o : Option (List ℕ)) → length (row_block f o) ≡ length (row_block g o)
placed_row f g None = refl
placed_row f g (Some ns) = states_placed f g 0 ns

row_within : (n k : ℕ) (t : Moment) (rs : List Row) (ns : List ℕ) → AllByRecursion (ValidRow n) rs → row_of rs k t ≡ Some ns → (length ns ≡ n) × AllByRecursion (λ q. (q < n) ⊎ (q ≡ 255)) ns
row_within n k t [] ns h e = absurd (none-some _ e)
row_within n k t (r ∷ rs) ns h e =
    cond_both (row_for k t r) (Some r.nexts) (row_of rs k t) (λ x. x ≡ Some ns → (length ns ≡ n) × AllByRecursion (λ q. (q < n) ⊎ (q ≡ 255)) ns)
    (λ y q. let z : r.nexts ≡ ns = cc in rw (← z) (h.0.1, h.0.2)) (λ y q. row_within n k t rs ns h.1 q) e

tidy_row : (t : Moment) (f n : ℕ) (o : Option (List ℕ)) → n ≤ 16 → ((ns : List ℕ) → o ≡ Some ns → (length ns ≡ n) × AllByRecursion (λ q. (q < n) ⊎ (q ≡ 255)) ns) →
    Tidy t f (f + 1) (row_block f o)
tidy_row t f n None l h = tt
tidy_row t f n (Some ns) l h =
    let k = h ns refl in
    tidy_states t f 1 0 ns refl (omega arith) (All-weaker _ _ (λ q s. elim s [ inl u ↦ inl (omega arith) | inr v ↦ inr v ]) ns k.1)

pub table_showing : (p : Table) → ValidTable p → Showing (table_automaton p) (table_block p)
table_showing p g = record {
  starts = refl;
  signed = (record { sfits = let s = g.start in let n = g.states in omega arith }, tt);
  keeps = λ e c d l h. keeps_row c (row_of p.rows e.call e.moment) d h ∙ l;
  passes = λ e c l h. ap (by_row c) (no_row e.call e.moment p.rows h);
  blind = λ k xs v w c lx lc. refl;
  placed = λ k t f f'. placed_row f f' (row_of p.rows k t);
  unwatched = λ k t f h. ap (row_block f) (no_row k t p.rows h);
  formed = λ k t f. tidy_formed t f (f + 1) (table_block p k t f) (tidy k t f);
  enclosed = λ k t f. tidy_enclosed t f (f + 1) (table_block p k t f) (tidy k t f);
  runs = λ k t f l c r lf lc xs v m lx lm. row_runs (xs ++ (v ∷ [])) f l c r m (row_of p.rows k t) lf lc lm;
}
  where
    tidy : (k : ℕ) (t : Moment) (f : ℕ) → Tidy t f (f + 1) (table_block p k t f)
    tidy k t f = tidy_row t f p.states (row_of p.rows k t) g.states.1 (λ ns e. row_within p.states k t p.rows ns g.rows e)
