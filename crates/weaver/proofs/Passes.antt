-- The passes over an applet that was read.
use Rattle.std.proofs.Common.{◌≡◌, ℕ, zero, suc, ◌+◌, ◌*◌, ◌/◌, ◌<◌, ◌≤◌, Bool, true, false, cond, not, eqb, List, [], ◌∷◌, map, length, get_or, drop, ℤ, Some, None, Ok, Err, Option, position, sym, refl, ap, ◌∙◌, subst, arith, length-append, length-drop}
use lib.ListN.{length-map}
use Rattle.std.specs.Simd.{first_chunks}
use Rattle.std.specs.List.{AllByRecursion, position_from}
use Rattle.std.proofs.lemmas.Iterator.Adapters.{position_from-zero}
use Rattle.std.proofs.lemmas.List.{at_drop_all, drop_more, get_or-map}
use Rattle.std.proofs.lemmas.Bool.{ne_eqb}
use Rattle.model.specs.declared.Instr.{Instr}
use Rattle.model.specs.declared.Own.{Own}
use Rattle.model.specs.declared.Refusal.{Refusal}
use Rattle.model.specs.declared.Refusal.TheVariants.{NotPlain}
use Rattle.model.specs.Machine as machine
use Rattle.model.specs.Weave.{Plain}
use Rattle.model.specs.Words.{quads, decode}
use Rattle.model.specs.Fields.{Within, Read, need, ◌>>=◌, ◌>>◌, contents_at}
use Rattle.model.specs.Reading.{Valid, write_code, write_codes, write_applet, method_place, instr_place, cells_place}
use Rattle.model.specs.Files.{plain_code, plain_codes, plain_of}
use Rattle.model.proofs.Places.{method_at, length_field}
use Rattle.applet.specs.declared.reader.Applet.{Applet}
use Rattle.applet.specs.Applets.{code_in, nth, meant, places_of, or_end, Placed}
use Rattle.weaver.specs.declared.methods.Method.{Method}
use Rattle.weaver.specs.declared.methods.Methods.{Methods}
use Rattle.weaver.specs.Steps.{GivesMethod}
use Rattle.weaver.specs.Pieces.{instr_in, instrs}
use Rattle.weaver.specs.Weaves.{is_own, forget, Sound, MethodAt}
use Rattle.weaver.proofs.Bytes.{write_length}

-- ---- a method

pub all_at : {X : Type 0} (P : X → Type 0) (xs : List X) (i : ℕ) (d : X) → AllByRecursion P xs → i < length xs → P (get_or xs i d)
all_at P [] i d h l = absurd (omega arith)
all_at P (x ∷ xs) zero d h l = h.0
all_at P (x ∷ xs) (suc i) d h l = all_at P xs i d h.1 (omega arith)

nth_some : {X : Type 0} (xs : List X) (i : ℕ) (d p : X) → nth xs i ≡ Some p → (i < length xs) × (get_or xs i d ≡ p)
nth_some [] i d p e = cc
nth_some (x ∷ xs) zero d p e = (omega arith, cc)
nth_some (x ∷ xs) (suc i) d p e = let h = nth_some xs i d p e in let l = h.0 in (omega arith, h.1)

-- the field of a method lies in the file
inside_file : (a : machine.Applet) (m : ℕ) → m < length a.methods → method_place a m + 3 + 4 * length (get_or a.methods m []) ≤ length (write_applet a)
inside_file a m h =
    let c = get_or a.methods m [] in
    let e : drop (method_place a m) (write_applet a) ≡ write_codes (c ∷ drop (m + 1) a.methods) = method_at a m ∙ ap write_codes (drop_more a.methods m [] h) in
    let l = ap length e ∙ length-append _ (write_codes (drop (m + 1) a.methods)) in
    let f = length_field 4 (write_code c) in
    let w = write_length c in
    let d = length-drop (method_place a m) (write_applet a) in
    omega arith

-- an applet that was read is within its limits
pub read_sound : (a : Applet) → Placed a → Valid (meant a) → length (write_applet (meant a)) ≤ 65535 → Sound a
read_sound a p v short =
    record {
      placed = p;
      methods = v.methods.1;
      threads = v.threads.1;
      sizes = λ m h. (all_at (λ c. Within 1 4096 (length c)) (meant a).methods m [] v.sizes h).1;
      short = short;
    }

-- a method's instructions, by the four bytes of each
chunked : (n : ℕ) (f : List ℕ) → instrs n (first_chunks 4 (length f / 4) f) ≡ map (λ q. or_end (decode n q)) (quads f)
chunked n [] = refl
chunked n (a ∷ []) = refl
chunked n (a ∷ b ∷ []) = refl
chunked n (a ∷ b ∷ c ∷ []) = refl
chunked n (a ∷ b ∷ c ∷ d ∷ r) =
    let e : length (a ∷ b ∷ c ∷ d ∷ r) / 4 ≡ suc (length r / 4) = omega arith in
    ap (λ k. instrs n (first_chunks 4 k (a ∷ b ∷ c ∷ d ∷ r))) e ∙ ap {B = List Instr} (λ is. instr_in n (a ∷ b ∷ c ∷ d ∷ []) ∷ is) (chunked n r)

module _ (a : Applet) (m : ℕ) where
  abbrev ps : List ℕ
  ps = places_of a

  count : length (meant a).methods ≡ length ps
  count = length-map ps (code_in a.file.now (length ps))

  pub method_found : Sound a → (p : ℕ) (bytes : List ℕ) (code : List (List ℕ)) → nth ps m ≡ Some p → bytes ≡ contents_at a.file.now p → code ≡ first_chunks 4 (length bytes / 4) bytes →
      MethodAt (meant a) m p code
  method_found s p bytes code e k q =
      let n = length ps in
      let h = nth_some ps m 0 p e in
      let i = h.0 in
      let w = count in
      let there : m < length (meant a).methods = omega arith in
      let z = s.placed m there in
      let at : p ≡ method_place (meant a) m = cc in
      let c : get_or (meant a).methods m [] ≡ instrs n code =
      get_or-map (code_in a.file.now n) ps m 0 [] i ∙ ap (code_in a.file.now n) h.1 ∙ ap (λ b. map (λ q. or_end (decode n q)) (quads b)) (sym k) ∙ sym (chunked n bytes) ∙ ap (instrs n) (sym q) in
      let b = s.sizes m there in
      let lc = ap length c ∙ length-map code (instr_in n) in
      let o = inside_file (meant a) m there in
      let short = s.short in
      record {
        there = there;
        placed = at;
        decoded = ap (λ n. instrs n code) w ∙ sym c;
        small = omega arith;
        inside = omega arith;
      }

-- the next method of an applet a
pub record Given (a : machine.Applet) (s : Methods) (x : Method) (t : Methods) : Type 0 where
  pub method : MethodAt a s.next x.place x.code.now
  pub next : t.next ≡ s.next + 1

pub given : (a : Applet) (s : Methods) (x : Method) (t : Methods) → s.applet.now ≡ a → GivesMethod s (Some x) t → Given (meant a) s x t
given a s x t e h = record { method = subst (λ a. MethodAt (meant a) s.next x.place x.code.now) e h.method.0; next = h.method.1 }

pub given_all : (a : Applet) (s t : Methods) → s.applet.now ≡ a → GivesMethod s None t → length (meant a).methods ≤ s.next
given_all a s t e h = subst (λ a. length (meant a).methods ≤ s.next) e h.method

-- ---- plain code

module _ (at : ℕ → ℕ) where
  -- a refusal of the instruction at an index
  abbrev pub refusal_at : Option ℕ → Read (Unit {0})
  refusal_at None = Ok tt
  refusal_at (Some i) = Err (NotPlain (at i))

  step : (i : ℕ) (c : Instr) (cs : List Instr) → forget (plain_code at i (c ∷ cs)) ≡ cond (not (is_own c)) (Err (NotPlain (at i))) (forget (plain_code at (i + 1) cs))
  unfolding ◌>>=◌
  step i (Instr.Own c) cs = by (plain_code at (i + 1) cs)
    where
      by : (r : Read (List Own)) → forget (r >>= (λ ds. Ok (c ∷ ds))) ≡ forget r
      by (Ok x) = refl
      by (Err x) = refl
  step i (Instr.Lock k) cs = refl
  step i Instr.Unlock cs = refl
  step i (Instr.Test c) cs = refl

  branch : (t : Bool) (i : ℕ) (o : Option ℕ) (r : Read (Unit {0})) → refusal_at o ≡ r → refusal_at (cond t (Some i) o) ≡ cond t (Err (NotPlain (at i))) r
  branch true i o r e = refl
  branch false i o r e = e

  from : (n i : ℕ) (code : List (List ℕ)) → refusal_at (position_from (λ b. not (is_own (instr_in n b))) i code) ≡ forget (plain_code at i (instrs n code))
  from n i [] = refl
  from n i (b ∷ bs) = branch (not (is_own (instr_in n b))) i _ _ (from n (i + 1) bs) ∙ sym (step i (instr_in n b) (instrs n bs))

  pub plain_by : (n : ℕ) (code : List (List ℕ)) (o : Option ℕ) → o ≡ position (λ b. not (is_own (instr_in n b))) code → refusal_at o ≡ forget (plain_code at 0 (instrs n code))
  plain_by n code o e = ap refusal_at (e ∙ position_from-zero (λ b. not (is_own (instr_in n b))) code) ∙ from n 0 code

-- ---- plain methods

module _ (at : ℕ → ℕ → ℕ) (cs : List (List Instr)) (m : ℕ) (h : m < length cs) where
  abbrev here : List Instr
  here = get_or cs m []

  codes_step : (r : Read (List Own)) (s : Read (List (List Own))) → forget r ≡ Ok tt → forget (r >>= (λ d. s >>= (λ ds. Ok (d ∷ ds)))) ≡ forget s
  unfolding ◌>>=◌
  codes_step (Ok d) (Ok ds) e = refl
  codes_step (Ok d) (Err x) e = refl
  codes_step (Err x) s e = cc

  codes_halt : (r : Read (List Own)) (s : Read (List (List Own))) (x : Refusal) → forget r ≡ Err x → forget (r >>= (λ d. s >>= (λ ds. Ok (d ∷ ds)))) ≡ Err x
  unfolding ◌>>=◌
  codes_halt (Ok d) s x e = cc
  codes_halt (Err y) s x e = e

  pub codes_more : forget (plain_code (at m) 0 here) ≡ Ok tt → forget (plain_codes at m (drop m cs)) ≡ forget (plain_codes at 0 cs) →
      (k : ℕ) → k ≡ m + 1 → forget (plain_codes at k (drop k cs)) ≡ forget (plain_codes at 0 cs)
  codes_more e s k n =
      ap (λ k. forget (plain_codes at k (drop k cs))) n ∙ sym (codes_step (plain_code (at m) 0 here) (plain_codes at (m + 1) (drop (m + 1) cs)) e) ∙ sym (ap (λ ds. forget (plain_codes at m ds)) (drop_more cs m [] h)) ∙ s

  pub codes_stop : (x : Refusal) → forget (plain_code (at m) 0 here) ≡ Err x → forget (plain_codes at m (drop m cs)) ≡ forget (plain_codes at 0 cs) →
      Err x ≡ forget (plain_codes at 0 cs)
  codes_stop x e s =
      sym (codes_halt (plain_code (at m) 0 here) (plain_codes at (m + 1) (drop (m + 1) cs)) x e) ∙ sym (ap (λ ds. forget (plain_codes at m ds)) (drop_more cs m [] h)) ∙ s

pub codes_end : (at : ℕ → ℕ → ℕ) (cs : List (List Instr)) (m : ℕ) → length cs ≤ m → forget (plain_codes at m (drop m cs)) ≡ forget (plain_codes at 0 cs) →
    Ok tt ≡ forget (plain_codes at 0 cs)
codes_end at cs m h s = sym (at_drop_all (λ ds. forget (plain_codes at m ds)) cs m h) ∙ s

-- ---- a plain applet

abbrev pub with_code : machine.Applet → List (List Own) → Plain
with_code a cs = record { entries = a.entries; code = cs }

pub filled_cells : (a : machine.Applet) → 0 < length a.starts → Err (NotPlain (cells_place a)) ≡ forget (plain_of a)
unfolding ◌>>=◌
filled_cells a h = rw (ne_eqb (length a.starts) 0 (λ z. omega arith))

pub no_cells : (a : machine.Applet) → length a.starts ≤ 0 → forget (plain_codes (instr_place a) 0 a.methods) ≡ forget (plain_of a)
unfolding ◌>>=◌
no_cells a h = by a.starts h (plain_codes (instr_place a) 0 a.methods)
  where
    by : (ss : List ℤ) → length ss ≤ 0 → (r : Read (List (List Own))) →
        forget r ≡ forget (need (eqb (length ss) 0) (NotPlain (cells_place a)) >> (r >>= (λ cs. Ok (with_code a cs))))
    by [] h (Ok x) = refl
    by [] h (Err x) = refl
    by (s ∷ ss) h r = absurd (omega arith)
