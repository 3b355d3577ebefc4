-- What the opcode tells of four bytes that are decoded.
use Rattle.std.proofs.Common.{◌≡◌, ℕ, ◌<◌, ◌≤◌, Bool, true, false, cond, suc, Some, None, Option, List, sym, refl, ap, ◌∙◌, subst, arith}
use Rattle.std.proofs.lemmas.Bool.{lt-ltb}
use Rattle.model.specs.declared.Instr.{Instr}
use Rattle.model.specs.declared.Own.{Own}
use Rattle.model.specs.declared.Test.{Test}
use Rattle.model.specs.declared.Moment.{Moment}
use Rattle.model.specs.Policy.{Automaton, Blocks}
use Rattle.model.specs.Words.{Quad, Entry, word, high, low, table, find, word_of, made, decode, Ranged, limit, own, call}
use Rattle.model.specs.Words.Operand.{target}
use Rattle.model.specs.Weave.{Watched, size, more, behind}
use Rattle.model.proofs.Words.{decoded, word_halves}
use Rattle.applet.specs.Applets.{or_end}
use Rattle.weaver.specs.Pieces.{own_of, Called, host_size}
use Rattle.weaver.specs.Weaves.{is_own}

-- a HOST that was decoded has a call below 64
ranged_called : (n : ℕ) (c : Own) → Ranged n (Instr.Own c) → Called c
unfolding table
ranged_called n (Own.Host k y) r =
    let z : own 0x0D call target true Own.Host ≡ r.entry = cc r.listed in
    subst (λ (e : Entry). k < limit n e.x) (sym z) r.x
ranged_called n _ r = tt

pub decoded_called : (n : ℕ) (q : Quad) → Called (own_of (or_end (decode n q)))
decoded_called n q = by (decode n q) refl
  where
    by : (o : Option Instr) → decode n q ≡ o → Called (own_of (or_end o))
    by None e = tt
    by (Some (Instr.Own c)) e = ranged_called n c (decoded n q (Instr.Own c) e).1
    by (Some _) e = tt

-- an instruction has the opcode and the first operand that it was decoded from
same_bytes : (n : ℕ) (q : Quad) (i : Instr) → decode n q ≡ Some i → ((word_of i).op ≡ q.a) × ((word_of i).x ≡ q.b)
unfolding decode
same_bytes n q i e =
    let y = word q.c q.d in
    let r : Quad = record { a = q.a; b = q.b; c = high y; d = low y } in
    let z = (decoded n r i (ap (λ y. made n q.b y (find q.a table)) (word_halves y) ∙ e)).0 (omega arith) in
    (ap (λ (r : Quad). r.a) z, ap (λ (r : Quad). r.b) z)

test_high : (c : Test) → 32 ≤ (word_of (Instr.Test c)).op
test_high (Test.Skip y) = omega arith
test_high (Test.Skz x y) = omega arith
test_high Test.Viol = omega arith
test_high (Test.Mset x y) = omega arith
test_high (Test.Mcell x y) = omega arith
test_high (Test.Marg x y) = omega arith
test_high (Test.Store x y) = omega arith
test_high (Test.Op x o) = omega arith

-- opcodes below 20 are the applet's own
pub own_below : (n : ℕ) (q : Quad) → q.a < 32 → is_own (or_end (decode n q)) ≡ true
own_below n q h = by (decode n q) refl
  where
    by : (o : Option Instr) → decode n q ≡ o → is_own (or_end o) ≡ true
    by None e = refl
    by (Some (Instr.Own c)) e = refl
    by (Some (Instr.Lock k)) e = absurd (let z = (same_bytes n q (Instr.Lock k) e).0 in omega arith)
    by (Some Instr.Unlock) e = absurd (let z = (same_bytes n q Instr.Unlock e).0 in omega arith)
    by (Some (Instr.Test c)) e = absurd (let z = (same_bytes n q (Instr.Test c) e).0 in let t = test_high c in omega arith)

-- a HOST of a call below 64
host_decoded : (n : ℕ) (q : Quad) → q.a ≡ 13 → q.b < 64 → word q.c q.d < 65536 → decode n q ≡ Some (Instr.Own (Own.Host q.b (word q.c q.d)))
unfolding decode table
host_decoded n q e h k =
    ap (λ o. made n q.b (word q.c q.d) (find o table)) e ∙ rw (lt-ltb q.b 64 h, lt-ltb (word q.c q.d) 65536 k)

module _ (A : Automaton) (B : Blocks) where
  abbrev blk : ℕ → Moment → List Test
  blk k t = B k t 0

  size_host : (k y : ℕ) → host_size A B k ≡ size A.watched blk (Own.Host k y)
  size_host k y = go (A.watched k)
    where
      go : (b : Bool) → cond b (suc (behind blk k)) 1 ≡ suc (more blk (cond {A = Option Watched} b (Some (record { call = k; raised = y })) None))
      go true = refl
      go false = refl

  pub host_sized : (n : ℕ) (q : Quad) → q.a ≡ 13 → q.b < 64 → q.c < 256 → q.d < 256 → host_size A B q.b ≡ size A.watched blk (own_of (or_end (decode n q)))
  host_sized n q e h c d = size_host q.b (word q.c q.d) ∙ sym (ap (λ o. size A.watched blk (own_of (or_end o))) (host_decoded n q e h (omega arith)))

  -- but for a HOST, one instruction stands for one
  pub one_else : (n : ℕ) (q : Quad) → (q.a ≡ 13 → q.b < 64 → ⊥) → 1 ≡ size A.watched blk (own_of (or_end (decode n q)))
  one_else n q h = by (decode n q) refl
    where
      own : (c : Own) → decode n q ≡ Some (Instr.Own c) → 1 ≡ size A.watched blk c
      own (Own.Host k y) e = absurd (let z = same_bytes n q (Instr.Own (Own.Host k y)) e in h (sym z.0) (subst (λ k. k < 64) z.1 (subst (λ o. Called (own_of (or_end o))) e (decoded_called n q))))
      own _ e = refl

      by : (o : Option Instr) → decode n q ≡ o → 1 ≡ size A.watched blk (own_of (or_end o))
      by None e = refl
      by (Some (Instr.Own c)) e = own c e
      by (Some _) e = refl
