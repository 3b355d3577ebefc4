-- The code of a method stands in the file at its place, and its instructions are decoded there.
use Rattle.std.proofs.Common.{◌≡◌, ℕ, zero, suc, ◌+◌, ◌*◌, ◌<◌, ◌&&◌, eqb, leb, List, [], ◌∷◌, map, length, get_or, take, drop, Some, Ok, sym, refl, ap, ◌∙◌, subst, add-zero, arith, length-append, get_or-drop, get_or-take, drop-drop}
use lib.ListN.{length-map}
use Rattle.std.specs.List.{AllByRecursion}
use Rattle.std.proofs.lemmas.List.{length-take-le}
use Rattle.std.proofs.lemmas.Bool.{leb-true, and_parts, cond_both}
use Rattle.model.specs.declared.Instr.{Instr}
use Rattle.model.specs.Machine.{Applet}
use Rattle.model.specs.Words.{Quad, quad_at, quads, word, encode, decode, signed_of}
use Rattle.model.specs.declared.Refusal.{Refusal}
use Rattle.model.specs.Fields.{Part, Field, refuse, next, expect, field}
use Rattle.model.specs.Reading.{read_code, read_codes, code_fields, read_applet, write_code, write_codes, code_place, method_place, instr_place}
use Rattle.model.proofs.Words.{length_flat, same_quad}
use Rattle.model.proofs.Places.{length_field}
use Rattle.model.proofs.Accepted.{err_ok, bound, needed, Coded, over_is, landed_is, read_code_is, code_fields_is, read_codes_is, items_true, head_is}
use Rattle.model.specs.declared.Refusal.TheVariants.{BadField}

-- a field that was met in a file, at its place
record MetAt (f : List ℕ) (p : ℕ) (m : Part) : Type 0 where
  here : m.place ≡ p
  contents : m.contents ≡ take (length m.contents) (drop (p + 3) f)
  rest : m.rest ≡ drop (next m) f

met_at : (f : List ℕ) (b : ℕ → Refusal) (tag p : ℕ) (r : List ℕ) (m : Part) → r ≡ drop p f → expect b tag p r ≡ Ok m → MetAt f p m
unfolding expect
met_at f b tag p [] m at e = absurd (err_ok e)
met_at f b tag p (t ∷ []) m at e = absurd (err_ok e)
met_at f b tag p (t ∷ h ∷ []) m at e = absurd (err_ok e)
met_at f b tag p (t ∷ h ∷ l ∷ r) m at e =
    cond_both (eqb t tag && leb (word h l) (length r)) (Ok (record { place = p; contents = take (word h l) r; rest = drop (word h l) r }))
    (refuse (b p)) (λ x. x ≡ Ok m → MetAt f p m)
    (λ y q.
    let z : record { place = p; contents = take (word h l) r; rest = drop (word h l) r } ≡ m = cc in
    let k = length-take-le (word h l) r (leb-true _ _ (and_parts (eqb t tag) (leb (word h l) (length r)) y).1) in
    let d : r ≡ drop (p + 3) f = ap (drop 3) at ∙ drop-drop 3 p f in
    let j : p + 3 + word h l ≡ p + (3 + length (take (word h l) r)) = omega arith in
    rw (← z) (record {
      here = refl;
      contents = ap (take (word h l)) d ∙ ap (λ n. take n (drop (p + 3) f)) (sym k);
      rest = ap (drop (word h l)) d ∙ drop-drop (word h l) (p + 3) f ∙ ap (λ n. drop n f) j;
    }))
    (λ y q. absurd (err_ok q)) e

-- groups of four that stand in a file from place p on
abbrev QuadsAt : List ℕ → ℕ → List Quad → Type 0
QuadsAt f p [] = Unit {0}
QuadsAt f p (q ∷ qs) = (quad_at f p ≡ q) × QuadsAt f (p + 4) qs

quads_stand : (f bs : List ℕ) (p : ℕ) → ((j : ℕ) → j < length bs → get_or bs j 0 ≡ get_or f (p + j) 0) → QuadsAt f p (quads bs)
quads_stand f [] p h = tt
quads_stand f (a ∷ []) p h = tt
quads_stand f (a ∷ b ∷ []) p h = tt
quads_stand f (a ∷ b ∷ c ∷ []) p h = tt
quads_stand f (a ∷ b ∷ c ∷ d ∷ r) p h = (
  same_quad (quad_at f p) (record { a = a; b = b; c = c; d = d })
      (ap (λ k. get_or f k 0) (sym (add-zero p)) ∙ sym (h 0 (omega arith)), sym (h 1 (omega arith)), sym (h 2 (omega arith)), sym (h 3 (omega arith))),
  quads_stand f r (p + 4) (λ j l. let e : p + suc (suc (suc (suc j))) ≡ p + 4 + j = omega arith in h (suc (suc (suc (suc j)))) (omega arith) ∙ ap
      (λ k. get_or f k 0) e),
)

-- instructions that are decoded from a file from place p on, where there are n methods
abbrev pub CodeAt : ℕ → List ℕ → ℕ → List Instr → Type 0
CodeAt n f p [] = Unit {0}
CodeAt n f p (c ∷ cs) = (decode n (quad_at f p) ≡ Some c) × CodeAt n f (p + 4) cs

code_stands : (f : List ℕ) (q n size i p : ℕ) (qs : List Quad) (cs : List Instr) → QuadsAt f q qs → read_code n size i p qs ≡ Ok cs → CodeAt n f q cs
code_stands f q n size i p [] cs h e = let z : [] ≡ cs = cc in rw (← z) tt
code_stands f q n size i p (x ∷ qs) cs h e =
    bound _ _ _ e λ c e₁ e₂.
    bound _ _ _ e₂ λ ds e₃ e₄.
    let z : c ∷ ds ≡ cs = cc in
    rw (← z) (ap (decode n) h.0 ∙ (landed_is size i p _ _ e₁).0, code_stands f (q + 4) n size (i + 1) (p + 4) qs ds h.1 e₃)

-- fields that stand in a file one behind the other
abbrev FieldsAt : List ℕ → ℕ → List Field → Type 0
FieldsAt f p [] = Unit {0}
FieldsAt f p (m ∷ ms) = (m.contents ≡ take (length m.contents) (drop (p + 3) f)) × FieldsAt f (p + (3 + length m.contents)) ms

fields_stand : (f : List ℕ) (n p : ℕ) (r : List ℕ) (ms : List Field) → r ≡ drop p f → code_fields n p r ≡ Ok ms → FieldsAt f p ms
fields_stand f zero p r ms at e = let o = over_is BadField p r (Ok []) ms e in let z : [] ≡ ms = cc in rw (← z) tt
fields_stand f (suc n) p r ms at e =
    bound _ _ _ e λ m e₁ e₂.
    needed _ _ _ _ e₂ λ t e₃.
    bound _ _ _ e₃ λ ns e₄ e₅.
    let w = met_at f BadField 4 p r m at e₁ in
    let rest = fields_stand f n (next m) m.rest ns w.rest e₄ in
    let z : record { place = p; contents = m.contents } ∷ ns ≡ ms = cc in
    rw (← z) (w.contents, subst (λ k. FieldsAt f (k + (3 + length m.contents)) ns) w.here rest)

-- methods that stand in a file one behind the other, each behind its head
abbrev MethodsAt : ℕ → List ℕ → ℕ → List (List Instr) → Type 0
MethodsAt n f p [] = Unit {0}
MethodsAt n f p (c ∷ cs) = CodeAt n f (p + 3) c × MethodsAt n f (p + (3 + 4 * length c)) cs

methods_stand : (f : List ℕ) (n p : ℕ) (ms : List Field) (cs : List (List Instr)) → AllByRecursion Coded ms → FieldsAt f p ms → read_codes n ms ≡ Ok cs →
    MethodsAt n f p cs
methods_stand f n p [] cs k h e = let z : [] ≡ cs = cc in rw (← z) tt
methods_stand f n p (m ∷ ms) cs k h e =
    bound _ _ _ e λ c e₁ e₂.
    bound _ _ _ e₂ λ ds e₃ e₄.
    let here : (j : ℕ) → j < length m.contents → get_or m.contents j 0 ≡ get_or f (p + 3 + j) 0 = (λ j l.
    ap (λ x. get_or x j 0) h.0 ∙ get_or-take (length m.contents) (drop (p + 3) f) j 0 l ∙ get_or-drop (p + 3) f j 0) in
    let i = items_true 1 4096 m.contents k.0 in
    let l = (read_code_is n _ 0 _ _ c e₁).1 in
    let s = sym (length_flat (quads m.contents)) ∙ ap length i.0 in
    let j : p + (3 + length m.contents) ≡ p + (3 + 4 * length c) = omega arith in
    let z : c ∷ ds ≡ cs = cc in
    rw (← z) (
      code_stands f (p + 3) n _ 0 _ (quads m.contents) c (quads_stand f m.contents (p + 3) here) e₁,
      subst (λ k. MethodsAt n f k ds) j (methods_stand f n (p + (3 + length m.contents)) ms ds k.1 h.1 e₃),
    )

applet_stands : (f : List ℕ) (a : Applet) → read_applet f ≡ Ok a → MethodsAt (length a.methods) f (method_place a 0) a.methods
applet_stands f a e =
    needed _ _ _ _ e λ short e.
    bound _ _ _ e λ h eh e.
    needed _ _ _ _ e λ th e.
    bound _ _ _ e λ t et e.
    needed _ _ _ _ e λ tm e.
    bound _ _ _ e λ s es e.
    needed _ _ _ _ e λ ts e.
    bound _ _ _ e λ ms em e.
    bound _ _ _ e λ cs ec e.
    let n = get_or h.contents 1 0 in
    let mh = met_at f BadField 1 0 f h refl eh in
    let mt = met_at f BadField 2 (next h) h.rest t mh.rest et in
    let mc = met_at f BadField 3 (next t) t.rest s mt.rest es in
    let cf = code_fields_is n _ s.rest ms em in
    let rc = read_codes_is n ms cs cf.2 ec in
    let len : n ≡ length cs = sym (rc.1 ∙ cf.1) in
    let hd : 2 ≡ length h.contents = ap length (head_is h.contents th).0 in
    let it = sym (length_flat (quads s.contents)) ∙ ap length (items_true 0 32 s.contents ts).0 in
    let b : Applet = record { entries = t.contents; starts = map signed_of (quads s.contents); methods = cs } in
    let ls = length-map (quads s.contents) signed_of in
    let here = mh.here in
    let there = mt.here in
    let last = mc.here in
    let place : next s ≡ method_place b 0 = omega arith in
    let z : b ≡ a = cc in
    let stands = methods_stand f n (next s) ms cs cf.2 (fields_stand f n (next s) s.rest ms mc.rest em) ec in
    rw (← z) (subst (λ k. MethodsAt (length cs) f k cs) place (subst (λ k. MethodsAt k f (next s) cs) len stands))

-- ---- one method, one instruction

pub code_place_more : (c : List Instr) (cs : List (List Instr)) (m : ℕ) → code_place (c ∷ cs) (suc m) ≡ 3 + 4 * length c + code_place cs m
code_place_more c cs m =
    let l = length-map c encode in
    length-append (field 4 (write_code c)) (write_codes (take m cs)) ∙ rw (length_field 4 (write_code c), length_flat (map encode c), l) refl

method_stands : (n : ℕ) (f : List ℕ) (p : ℕ) (cs : List (List Instr)) (m : ℕ) → m < length cs → MethodsAt n f p cs →
    CodeAt n f (p + code_place cs m + 3) (get_or cs m [])
method_stands n f p [] m l h = absurd (omega arith)
method_stands n f p (c ∷ cs) zero l h = subst (λ k. CodeAt n f (k + 3) c) (sym (add-zero p)) h.0
method_stands n f p (c ∷ cs) (suc m) l h =
    let e = code_place_more c cs m in
    let j : p + (3 + 4 * length c) + code_place cs m ≡ p + code_place (c ∷ cs) (suc m) = omega arith in
    subst (λ k. CodeAt n f (k + 3) (get_or cs m [])) j (method_stands n f (p + (3 + 4 * length c)) cs m (omega arith) h.1)

decoded_at : (n : ℕ) (f : List ℕ) (p : ℕ) (cs : List Instr) (i : ℕ) (d : Instr) → i < length cs → CodeAt n f p cs →
    decode n (quad_at f (p + 4 * i)) ≡ Some (get_or cs i d)
decoded_at n f p [] i d l h = absurd (omega arith)
decoded_at n f p (c ∷ cs) zero d l h = ap (λ k. decode n (quad_at f k)) (omega arith) ∙ h.0
decoded_at n f p (c ∷ cs) (suc i) d l h =
    let j : p + 4 * suc i ≡ p + 4 + 4 * i = omega arith in
    ap (λ k. decode n (quad_at f k)) j ∙ decoded_at n f (p + 4) cs i d (omega arith) h.1

-- the instruction at index i of method m is decoded from the four bytes at its place
pub fetched : (f : List ℕ) (a : Applet) (m i : ℕ) (d : Instr) → read_applet f ≡ Ok a → m < length a.methods → i < length (get_or a.methods m []) →
    decode (length a.methods) (quad_at f (instr_place a m i)) ≡ Some (get_or (get_or a.methods m []) i d)
fetched f a m i d e lm li =
    let j : instr_place a m i ≡ method_place a 0 + code_place a.methods m + 3 + 4 * i = omega arith in
    ap (λ k. decode (length a.methods) (quad_at f k)) j
    ∙ decoded_at (length a.methods) f _ (get_or a.methods m []) i d li
    (method_stands (length a.methods) f (method_place a 0) a.methods m lm (applet_stands f a e))
