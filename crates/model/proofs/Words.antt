-- What is written is read back, and what is read was written so: numbers and instructions.
use Rattle.std.proofs.Common.{◌≡◌, ℕ, zero, suc, ◌*◌, ◌%◌, ◌<◌, true, eqb, List, [], ◌∷◌, length, take, drop, ℤ, Some, None, Option, sym, refl, ap, ◌∙◌, arith, take-append-drop, w16, w32, SFits, to_z}
use Rattle.std.specs.List.{AllByRecursion}
use Rattle.std.proofs.ByRecursion.{All-append}
use Rattle.std.proofs.lemmas.Int.{to_z-of_z, of_z-to_z}
use Rattle.std.proofs.lemmas.Bool.{lt-ltb, ltb-true, eq-eqb, eqb-true, and_parts, and_from, cond_both}
use Rattle.model.specs.declared.Operator.{Operator}
use Rattle.model.specs.declared.Operator.TheVariants.{Plus, Minus, Less, Equal, Both, Either}
use Rattle.model.specs.declared.Own.{Own}
use Rattle.model.specs.declared.Test.{Test}
use Rattle.model.specs.declared.Instr.{Instr}
use Rattle.std.proofs.lemmas.Option.{none-some}
use Rattle.model.proofs.Options.{some_same}
use Rattle.model.specs.Words.{word, high, low, Quad, flat, quads, signed_of, quad_of, Entry, limit, table, find, word_of, encode, fits, made, decode}
use Rattle.model.specs.Words.{operator_number, operator_of, Ranged, entry_of, same}

pub operator_back : (o : Operator) → operator_of (operator_number o) ≡ o
operator_back Plus = refl
operator_back Minus = refl
operator_back Less = refl
operator_back Equal = refl
operator_back Both = refl
operator_back Either = refl

pub operator_small : (o : Operator) → operator_number o < 6
operator_small Plus = omega arith
operator_small Minus = omega arith
operator_small Less = omega arith
operator_small Equal = omega arith
operator_small Both = omega arith
operator_small Either = omega arith

pub operator_there : (y : ℕ) → y < 6 → operator_number (operator_of y) ≡ y
operator_there zero h = refl
operator_there (suc zero) h = refl
operator_there (suc (suc zero)) h = refl
operator_there (suc (suc (suc zero))) h = refl
operator_there (suc (suc (suc (suc zero)))) h = refl
operator_there (suc (suc (suc (suc (suc n))))) h = omega arith

pub word_halves : (n : ℕ) → word (high n) (low n) ≡ n
word_halves n = omega arith

pub high_word : (h l : ℕ) → l < 256 → high (word h l) ≡ h
high_word h l p = omega arith

pub low_word : (h l : ℕ) → l < 256 → low (word h l) ≡ l
low_word h l p = omega arith

pub quads_flat : (qs : List Quad) → quads (flat qs) ≡ qs
quads_flat [] = refl
quads_flat (q ∷ qs) = ap {B = List Quad} (λ r. q ∷ r) (quads_flat qs)

pub length_flat : (qs : List Quad) → length (flat qs) ≡ 4 * length qs
length_flat [] = refl
length_flat (q ∷ qs) = let h = length_flat qs in omega arith

pub flat_quads : (bs : List ℕ) → length bs % 4 ≡ 0 → flat (quads bs) ≡ bs
flat_quads [] h = refl
flat_quads (a ∷ []) h = absurd (omega arith)
flat_quads (a ∷ (b ∷ [])) h = absurd (omega arith)
flat_quads (a ∷ (b ∷ (c ∷ []))) h = absurd (omega arith)
flat_quads (a ∷ (b ∷ (c ∷ (d ∷ r)))) h = ap {B = List ℕ} (λ t. a ∷ (b ∷ (c ∷ (d ∷ t)))) (flat_quads r (omega arith))

pub signed_quad : (z : ℤ) → SFits w32 z → signed_of (quad_of z) ≡ z
signed_quad z f = ap (to_z w32) (omega arith) ∙ to_z-of_z w32 z f

pub split : {X : Type 0} (P : X → Type 0) (n : ℕ) (xs : List X) → AllByRecursion P (take n xs) → AllByRecursion P (drop n xs) → AllByRecursion P xs
split P n xs h k = rw (take-append-drop n xs) at (All-append P (take n xs) (drop n xs) h k)

pub same_quad : (q r : Quad) → (q.a ≡ r.a) × (q.b ≡ r.b) × (q.c ≡ r.c) × (q.d ≡ r.d) → q ≡ r
same_quad q r h = λ i. record { a = h.0 i; b = h.1 i; c = h.2 i; d = h.3 i }

-- an entry's word goes back to what it made
abbrev pub Writes : Entry → Type 0
Writes e = (n x y : ℕ) → x < limit n e.x → y < limit n e.y → ((word_of (e.make x y)).op ≡ e.op) × ((word_of (e.make x y)).x ≡ x) ×
    ((word_of (e.make x y)).y ≡ y)

pub writes : AllByRecursion Writes table
unfolding table
writes =
    split Writes 1 table (λ n x y a b. (refl, refl, of_z-to_z w16 y b), tt)
    (split Writes 6 (drop 1 table) (omega arith)
    (split Writes 6 (drop 7 table) (omega arith)
    (split Writes 6 (drop 13 table) (omega arith) (λ n x y a b. (refl, refl, of_z-to_z w16 y b), split Writes 3 (drop 20 table) (omega arith) (λ n x y a b. (refl, refl, operator_there y b), tt)))))

-- what a look-up finds is in the list, under that opcode
pub found : (P : Entry → Type 0) (o : ℕ) (es : List Entry) (e : Entry) → AllByRecursion P es → find o es ≡ Some e → P e × (o ≡ e.op)
found P o [] e h p = absurd (none-some _ p)
found P o (c ∷ cs) e h p = cond_both (eqb o c.op) (Some c) (find o cs) (λ r. r ≡ Some e → P e × (o ≡ e.op))
    (λ t q. let z : c ≡ e = cc in rw (← z) (h.0, eqb-true o c.op t)) (λ t q. found P o cs e h.1 q) p

pub encoded : (n : ℕ) (i : Instr) → Ranged n i → decode n (encode i) ≡ Some i
unfolding decode
encoded n i r = rw (word_halves (word_of i).y, r.listed, lt-ltb _ _ r.x, lt-ltb _ _ r.y, r.same)

module _ (n : ℕ) (q : Quad) (i : Instr) where
  -- a group of four that was read: it is in range, and of bytes it is what is written
  abbrev Decoded : Type 0
  Decoded = (q.d < 256 → encode i ≡ q) × Ranged n i

  decoded_at : (e : Entry) → find q.a table ≡ Some e → fits n e q.b (word q.c q.d) ≡ true →
      Some (e.make q.b (word q.c q.d)) ≡ Some i → Decoded
  decoded_at e f t r =
      let k = found Writes q.a table e writes f in
      let b = and_parts _ _ t in
      let bx = ltb-true _ _ b.0 in
      let by = ltb-true _ _ b.1 in
      let w = k.0 n q.b (word q.c q.d) bx by in
      let z : e.make q.b (word q.c q.d) ≡ i = cc in
      rw (← z) (
        λ h. same_quad (encode (e.make q.b (word q.c q.d))) q (omega arith),
        record { entry = e; listed = ap (λ o. find o table) (w.0 ∙ sym k.1) ∙ f; x = rw w.1 bx; y = rw w.2 by; same = rw (w.1, w.2) },
      )

  decoded_by : (o : Option Entry) → find q.a table ≡ o → made n q.b (word q.c q.d) o ≡ Some i → Decoded
  decoded_by None f r = absurd (none-some _ r)
  decoded_by (Some e) f r =
      cond_both (fits n e q.b (word q.c q.d)) (Some (e.make q.b (word q.c q.d))) None (λ r. r ≡ Some i → Decoded)
      (decoded_at e f) (λ t r. absurd (none-some _ r)) r

  pub decoded : decode n q ≡ Some i → (q.d < 256 → encode i ≡ q) × Ranged n i
  unfolding decode
  decoded p = decoded_by (find q.a table) refl p

-- every instruction has an entry, which makes it again if a signed operand fits in its two bytes
abbrev pub Remade : Instr → Type 0
Remade i = (e : Entry) × (entry_of i ≡ Some e) × (e.make (word_of i).x (word_of i).y ≡ i)

pub complete_own : (i : Own) → ((x : ℕ) (y : ℤ) → i ≡ Own.Set x y → SFits w16 y) → Remade (Instr.Own i)
unfolding table
complete_own (Own.Set x y) h = (_, refl, ap (λ z. Instr.Own (Own.Set x z)) (to_z-of_z w16 y (h x y refl)))
complete_own (Own.Mov x y) h = (_, refl, refl)
complete_own (Own.Add x y) h = (_, refl, refl)
complete_own (Own.Sub x y) h = (_, refl, refl)
complete_own (Own.Lt x y) h = (_, refl, refl)
complete_own (Own.Eq x y) h = (_, refl, refl)
complete_own (Own.Get x y) h = (_, refl, refl)
complete_own (Own.Put x y) h = (_, refl, refl)
complete_own (Own.Jump y) h = (_, refl, refl)
complete_own (Own.Brz x y) h = (_, refl, refl)
complete_own (Own.Call y) h = (_, refl, refl)
complete_own Own.Ret h = (_, refl, refl)
complete_own (Own.Host x y) h = (_, refl, refl)
complete_own Own.End h = (_, refl, refl)

pub complete_test : (i : Test) → ((x : ℕ) (y : ℤ) → i ≡ Test.Mset x y → SFits w16 y) → Remade (Instr.Test i)
unfolding table
complete_test (Test.Skip y) h = (_, refl, refl)
complete_test (Test.Skz x y) h = (_, refl, refl)
complete_test Test.Viol h = (_, refl, refl)
complete_test (Test.Mset x y) h = (_, refl, ap (λ z. Instr.Test (Test.Mset x z)) (to_z-of_z w16 y (h x y refl)))
complete_test (Test.Mcell x y) h = (_, refl, refl)
complete_test (Test.Marg x y) h = (_, refl, refl)
complete_test (Test.Store x y) h = (_, refl, refl)
complete_test (Test.Op x o) h = (_, refl, ap (λ p. Instr.Test (Test.Op x p)) (operator_back o))

pub complete_lock : (k : ℕ) → Remade (Instr.Lock k)
unfolding table
complete_lock k = (_, refl, refl)

pub complete_unlock : Remade Instr.Unlock
unfolding table
complete_unlock = (_, refl, refl)

pub same_refl : (a : Instr) → same a a ≡ true
same_refl a = let w = word_of a in and_from _ _ (and_from _ _ (eq-eqb w.op w.op refl) (eq-eqb w.x w.x refl)) (eq-eqb w.y w.y refl)

pub same_sound : (a b : Instr) → Remade a → Remade b → same a b ≡ true → a ≡ b
same_sound a b (e, l, m) (f, k, n) h =
    let p = and_parts _ _ h in
    let q = and_parts _ _ p.0 in
    let o = eqb-true _ _ q.0 in
    let x = eqb-true _ _ q.1 in
    let y = eqb-true _ _ p.1 in
    let z : e ≡ f = some_same f e (sym l ∙ ap (λ c. find c table) o ∙ k) refl in
    sym m ∙ (λ i. (z i).make (x i) (y i)) ∙ n
