-- The instruction of four bytes, by the row of its opcode.
use Rattle.std.proofs.Common.{◌≡◌, ℕ, ◌%◌, ◌<◌, Bool, true, false, cond, Some, None, Ok, Err, Option, sym, refl, ap, ◌∙◌, subst, ap₂, arith}
use Rattle.std.specs.List.{AllByRecursion}
use Rattle.std.specs.Option.{option_map}
use Rattle.std.proofs.lemmas.Bool.{ltb-true, and_parts}
use Rattle.model.specs.declared.Instr.{Instr}
use Rattle.model.specs.declared.Refusal.{Refusal}
use Rattle.model.specs.declared.Refusal.TheVariants.{BadInstruction, BadLanding}
use Rattle.model.specs.Words.{word, Quad, Entry, limit, table, find, made, decode, fits, lands, lands_by, word_of}
use Rattle.model.specs.Fields.{refuse}
use Rattle.model.specs.Reading.{landed}
use Rattle.model.proofs.Words.{found, Writes, writes}
use Rattle.opcodes.specs.Table.{Row, ranges, row_fits}
use Rattle.opcodes.specs.Instructions.{instr_of}
use Rattle.opcodes.specs.Judging.{passed, row_lands, row_judged}

-- what the code makes of an entry's opcode is what the entry makes
abbrev Builds : Entry → Type 0
Builds e = (n x y : ℕ) → n < 256 → y < limit n e.y → instr_of e.op x y ≡ Some (e.make x y)

-- a number below 256 is its own low byte
small : {X : Type 0} (f : ℕ → X) (y : ℕ) → y < 256 → f (y % 256) ≡ f y
small f y h = ap f (omega arith)

builds : AllByRecursion Builds table
unfolding table
builds = search (arith, small)

-- the entry behind a row
from_row : (o : Option Entry) (r : Row) → Some r ≡ option_map ranges o → (e : Entry) × (o ≡ Some e) × (ranges e ≡ r)
from_row None r h = absurd cc
from_row (Some e) r h = (e, refl, cc)

none_row : (o : Option Entry) → None ≡ option_map ranges o → o ≡ None
none_row None h = refl
none_row (Some e) h = absurd cc

module _ (n : ℕ) (q : Quad) where
  -- no row
  pub decode_none : None ≡ option_map ranges (find q.a table) → None ≡ decode n q
  unfolding decode
  decode_none h = rw (none_row (find q.a table) h)

  -- a row whose ranges the operands are outside of
  pub decode_outside : (r : Row) → Some r ≡ option_map ranges (find q.a table) → row_fits n r q.b (word q.c q.d) ≡ false → None ≡ decode n q
  unfolding decode
  decode_outside r h t =
      let (e, f, s) = from_row (find q.a table) r h in
      let u = ap (λ (k : Row). row_fits n k q.b (word q.c q.d)) s ∙ t in
      rw (f, u)

  -- a row whose ranges the operands are inside of
  pub decode_inside : (r : Row) → n < 256 → Some r ≡ option_map ranges (find q.a table) → row_fits n r q.b (word q.c q.d) ≡ true →
      instr_of q.a q.b (word q.c q.d) ≡ decode n q
  unfolding decode
  decode_inside r l h t =
      let (e, f, s) = from_row (find q.a table) r h in
      let u = ap (λ (k : Row). row_fits n k q.b (word q.c q.d)) s ∙ t in
      let k = found Builds q.a table e builds f in
      let b = and_parts _ _ u in
      let m = k.0 n q.b (word q.c q.d) l (ltb-true _ _ b.1) in
      rw (f, u) (ap (λ o. instr_of o q.b (word q.c q.d)) k.1 ∙ m)

  -- where the instruction of an entry leads, by the entry
  lands_made : (size i : ℕ) (e : Entry) → find q.a table ≡ Some e → fits n e q.b (word q.c q.d) ≡ true →
      lands size i (e.make q.b (word q.c q.d)) ≡ row_lands size i (ranges e) (word q.c q.d)
  lands_made size i e f t =
      let k = found Writes q.a table e writes f in
      let b = and_parts _ _ t in
      let w = k.0 n q.b (word q.c q.d) (ltb-true _ _ b.0) (ltb-true _ _ b.1) in
      let g : find (word_of (e.make q.b (word q.c q.d))).op table ≡ Some e = ap (λ o. find o table) (w.0 ∙ sym k.1) ∙ f in
      ap₂ (λ y o. lands_by size i y o) w.2 g

  pass_cond : (b : Bool) (c : Instr) (r : Refusal) → passed (cond b (Ok c) (refuse r)) (Ok tt) ≡ cond b (Ok tt) (refuse r)
  pass_cond true c r = refl
  pass_cond false c r = refl

  judged_fit : (size i p : ℕ) (e : Entry) → find q.a table ≡ Some e → (b : Bool) → fits n e q.b (word q.c q.d) ≡ b →
      row_judged n size i p q.b (word q.c q.d) (Some (ranges e)) ≡ passed (landed size i p (made n q.b (word q.c q.d) (Some e))) (Ok tt)
  judged_fit size i p e f true t = rw t
      (sym (ap (λ b. cond b (Ok tt) (refuse (BadLanding p))) (lands_made size i e f t)) ∙
      sym (pass_cond (lands size i (e.make q.b (word q.c q.d))) (e.make q.b (word q.c q.d)) (BadLanding p)))
  judged_fit size i p e f false t = rw t

  judged_entry : (size i p : ℕ) (r : Row) (e : Entry) → find q.a table ≡ Some e → ranges e ≡ r →
      row_judged n size i p q.b (word q.c q.d) (Some r) ≡ passed (landed size i p (decode n q)) (Ok tt)
  unfolding decode
  judged_entry size i p r e f s =
      subst (λ (k : Row). row_judged n size i p q.b (word q.c q.d) (Some k) ≡ passed (landed size i p (decode n q)) (Ok tt)) s
      (judged_fit size i p e f (fits n e q.b (word q.c q.d)) refl ∙
      ap (λ o. passed (landed size i p (made n q.b (word q.c q.d) o)) (Ok tt)) (sym f))

  -- an instruction is judged by the row of its opcode
  pub judged_row : (size i p : ℕ) (r : Row) → Some r ≡ option_map ranges (find q.a table) →
      row_judged n size i p q.b (word q.c q.d) (Some r) ≡ passed (landed size i p (decode n q)) (Ok tt)
  judged_row size i p r h = let w = from_row (find q.a table) r h in judged_entry size i p r w.0 w.1 w.2

  pub judged_none : (size i p : ℕ) → None ≡ option_map ranges (find q.a table) → Err (BadInstruction p) ≡ passed (landed size i p (decode n q)) (Ok tt)
  judged_none size i p h = ap (λ o. passed (landed size i p o) (Ok tt)) (decode_none h)
