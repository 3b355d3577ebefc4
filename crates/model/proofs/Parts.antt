-- What a reader hands out is a part of the file.
use Rattle.std.proofs.Common.{◌≡◌, ℕ, zero, suc, ◌+◌, ◌-◌, ◌*◌, ◌<◌, ◌≤◌, ◌&&◌, eqb, leb, List, [], ◌∷◌, map, length, get_or, take, drop, Ok, sym, refl, ap, ◌∙◌, subst, ap₂, add-zero, arith}
use lib.ListN.{length-map}
use Rattle.std.specs.List.{AllByRecursion}
use Rattle.std.proofs.ByRecursion.{All-take, All-drop}
use Rattle.std.proofs.lemmas.List.{length-take-le, length-take, length-drop, drop-drop, get_or-drop, get_or-take, drop-take, take-take}
use Rattle.std.proofs.lemmas.Bool.{leb-true, eqb-true, and_parts, cond_both}
use Rattle.model.specs.declared.Instr.{Instr}
use Rattle.model.specs.declared.Refusal.{Refusal}
use Rattle.model.specs.declared.Refusal.TheVariants.{BadField}
use Rattle.model.specs.Machine.{Applet}
use Rattle.model.specs.Words.{word, quads, flat, signed_of}
use Rattle.model.specs.Fields.{Bytes, Part, Field, refuse, next, expect}
use Rattle.model.specs.Reading.{read_codes, code_fields, read_applet, write_code, code_place, cells_place, method_place}
use Rattle.model.specs.Fields.{announced, contents_at}
use Rattle.model.specs.Parts.{Stands, Handed, AppletParts, PartsOfFiles}
use Rattle.model.proofs.Words.{length_flat}
use Rattle.model.proofs.Accepted.{err_ok, bound, needed, Coded, over_is, read_code_is, code_fields_is, read_codes_is, items_true, head_is, whole_quads, starts_is}
use Rattle.model.proofs.Fetching.{code_place_more, fetched}

-- ---- a field

byte_at : (f r : List ℕ) (p j : ℕ) → r ≡ drop p f → get_or f (p + j) 0 ≡ get_or r j 0
byte_at f r p j at = sym (get_or-drop p f j 0) ∙ ap (λ x. get_or x j 0) (sym at)

handed : (f : List ℕ) (why : ℕ → Refusal) (tag p : ℕ) (r : List ℕ) (m : Part) → r ≡ drop p f → expect why tag p r ≡ Ok m → Handed f f tag p m
unfolding expect
handed f why tag p [] m at e = absurd (err_ok e)
handed f why tag p (t ∷ []) m at e = absurd (err_ok e)
handed f why tag p (t ∷ h ∷ []) m at e = absurd (err_ok e)
handed f why tag p (t ∷ h ∷ l ∷ r) m at e =
    cond_both (eqb t tag && leb (word h l) (length r)) (Ok (record { place = p; contents = take (word h l) r; rest = drop (word h l) r }))
    (refuse (why p)) (λ x. x ≡ Ok m → Handed f f tag p m)
    (λ y q.
    let z : record { place = p; contents = take (word h l) r; rest = drop (word h l) r } ≡ m = cc in
    let w = and_parts (eqb t tag) (leb (word h l) (length r)) y in
    let fits : word h l ≤ length r = leb-true _ _ w.1 in
    let k = length-take-le (word h l) r fits in
    let d : r ≡ drop (p + 3) f = ap (drop 3) at ∙ drop-drop 3 p f in
    let n : announced f p ≡ word h l = ap₂ word (byte_at f (t ∷ h ∷ l ∷ r) p 1 at) (byte_at f (t ∷ h ∷ l ∷ r) p 2 at) in
    let c : contents_at f p ≡ take (word h l) r = ap₂ take n (sym d) in
    let b = byte_at f (t ∷ h ∷ l ∷ r) p 0 at in
    let whole = ap length at ∙ length-drop p f in
    let j : p + 3 + word h l ≡ p + (3 + length (take (word h l) r)) = omega arith in
    rw (← z) (record {
      place = refl;
      stands = record {
        tagged = ap (λ i. get_or f i 0) (sym (add-zero p)) ∙ b ∙ eqb-true t tag w.0;
        sized = ap length c ∙ k ∙ sym n;
        ends = rw n (omega arith);
      };
      contents = sym c;
      rest = ap (drop (word h l)) d ∙ drop-drop (word h l) (p + 3) f ∙ ap (λ n. drop n f) j;
    }))
    (λ y q. absurd (err_ok q)) e

-- a part of a front of a file is a part of the file
take_front : (f : List ℕ) (e p n : ℕ) → p + n ≤ e → take n (drop p (take e f)) ≡ take n (drop p f)
take_front f e p n h =
    let k : p + (e - p) ≡ e = omega arith in
    ap (λ z. take n (drop p (take z f))) (sym k) ∙ ap (take n) (drop-take p (e - p) f) ∙ take-take n (e - p) (drop p f) (omega arith)

front : (f : List ℕ) (e tag p : ℕ) (m : Part) → Handed (take e f) (take e f) tag p m → Handed f (take e f) tag p m
front f e tag p m h =
    let s = h.stands in
    let l = length-take e f in
    let fits : p + (3 + announced (take e f) p) ≤ e = omega arith in
    let n : announced (take e f) p ≡ announced f p = ap₂ word (get_or-take e f (p + 1) 0 (omega arith)) (get_or-take e f (p + 2) 0 (omega arith)) in
    let c : contents_at (take e f) p ≡ contents_at f p = take_front f e (p + 3) (announced (take e f) p) (omega arith) ∙ ap
    (λ k. take k (drop (p + 3) f)) n in
    record {
      place = h.place;
      stands = record {
        tagged = sym (get_or-take e f p 0 (omega arith)) ∙ s.tagged;
        sized = ap length (sym c) ∙ s.sized ∙ n;
        ends = subst (λ k. p + (3 + k) ≤ length (take e f)) n s.ends;
      };
      contents = h.contents ∙ c;
      rest = h.rest;
    }

-- ---- the code of an applet

-- fields of code that stand in a file one behind the other
abbrev RowAt : List ℕ → ℕ → List Field → Type 0
RowAt f p [] = Unit {0}
RowAt f p (m ∷ ms) = Stands f f 4 p × (m.contents ≡ contents_at f p) × RowAt f (p + (3 + length m.contents)) ms

row_stands : (f : List ℕ) (n p : ℕ) (r : List ℕ) (ms : List Field) → r ≡ drop p f → code_fields n p r ≡ Ok ms → RowAt f p ms
row_stands f zero p r ms at e = let o = over_is BadField p r (Ok []) ms e in let z : [] ≡ ms = cc in rw (← z) tt
row_stands f (suc n) p r ms at e =
    bound _ _ _ e λ m e₁ e₂.
    needed _ _ _ _ e₂ λ t e₃.
    bound _ _ _ e₃ λ ns e₄ e₅.
    let w = handed f BadField 4 p r m at e₁ in
    let rest = row_stands f n (next m) m.rest ns w.rest e₄ in
    let z : record { place = p; contents = m.contents } ∷ ns ≡ ms = cc in
    rw (← z) (w.stands, w.contents, subst (λ k. RowAt f (k + (3 + length m.contents)) ns) w.place rest)

bytes_at : (f : List ℕ) (p : ℕ) → Bytes f → Bytes (contents_at f p)
bytes_at f p h = All-take (λ b. b < 256) (announced f p) (drop (p + 3) f) (All-drop (λ b. b < 256) (p + 3) f h)

-- a method whose code stands in a file
record MethodAt (f : List ℕ) (p : ℕ) (c : List Instr) : Type 0 where
  stands : Stands f f 4 p
  size : announced f p ≡ 4 * length c
  bytes : Bytes f → write_code c ≡ contents_at f p

-- methods that stand in a file one behind the other
abbrev MethodsAt : List ℕ → ℕ → List (List Instr) → Type 0
MethodsAt f p [] = Unit {0}
MethodsAt f p (c ∷ cs) = MethodAt f p c × MethodsAt f (p + (3 + 4 * length c)) cs

methods_stand : (f : List ℕ) (n p : ℕ) (ms : List Field) (cs : List (List Instr)) → AllByRecursion Coded ms → RowAt f p ms → read_codes n ms ≡ Ok cs → MethodsAt f p cs
methods_stand f n p [] cs k h e = let z : [] ≡ cs = cc in rw (← z) tt
methods_stand f n p (m ∷ ms) cs k h e =
    bound _ _ _ e λ c e₁ e₂.
    bound _ _ _ e₂ λ ds e₃ e₄.
    let i = items_true 1 4096 m.contents k.0 in
    let l = read_code_is n _ 0 _ _ c e₁ in
    let lc = l.1 in
    let s : 4 * length (quads m.contents) ≡ length m.contents = sym (length_flat (quads m.contents)) ∙ ap length i.0 in
    let j : length m.contents ≡ 4 * length c = omega arith in
    let b : Bytes f → write_code c ≡ contents_at f p = (λ y.
    ap flat (l.0 (whole_quads m.contents (subst Bytes (sym h.1) (bytes_at f p y)))) ∙ i.0 ∙ h.1) in
    let z : c ∷ ds ≡ cs = cc in
    rw (← z) (
      record { stands = h.0; size = sym h.0.sized ∙ ap length (sym h.1) ∙ j; bytes = b },
      subst (λ k. MethodsAt f (p + (3 + k)) ds) j (methods_stand f n (p + (3 + length m.contents)) ms ds k.1 h.2 e₃),
    )

method_stands : (f : List ℕ) (p : ℕ) (cs : List (List Instr)) (m : ℕ) → m < length cs → MethodsAt f p cs → MethodAt f (p + code_place cs m) (get_or cs m [])
method_stands f p [] m l h = absurd (omega arith)
method_stands f p (c ∷ cs) zero l h = subst (λ k. MethodAt f k c) (sym (add-zero p)) h.0
method_stands f p (c ∷ cs) (suc m) l h =
    let e = code_place_more c cs m in
    let j : p + (3 + 4 * length c) + code_place cs m ≡ p + code_place (c ∷ cs) (suc m) = omega arith in
    subst (λ k. MethodAt f k (get_or cs m [])) j (method_stands f (p + (3 + 4 * length c)) cs m (omega arith) h.1)

-- ---- the fields of an applet

applet_parts : (f : List ℕ) (a : Applet) → read_applet f ≡ Ok a → AppletParts f a
applet_parts f a whole =
    needed _ _ _ _ whole λ short e.
    bound _ _ _ e λ h eh e.
    needed _ _ _ _ e λ th e.
    bound _ _ _ e λ t et e.
    needed _ _ _ _ e λ tm e.
    bound _ _ _ e λ s es e.
    needed _ _ _ _ e λ ts e.
    bound _ _ _ e λ ms em e.
    bound _ _ _ e λ cs ec e.
    let n = get_or h.contents 1 0 in
    let mh = handed f BadField 1 0 f h refl eh in
    let mt = handed f BadField 2 (next h) h.rest t mh.rest et in
    let mc = handed f BadField 3 (next t) t.rest s mt.rest es in
    let cf = code_fields_is n _ s.rest ms em in
    let rc = read_codes_is n ms cs cf.2 ec in
    let hd = (head_is h.contents th).0 in
    let len : n ≡ length cs = sym (rc.1 ∙ cf.1) in
    let it = (items_true 0 32 s.contents ts).0 in
    let ls = length-map (quads s.contents) signed_of in
    let lq : 4 * length (quads s.contents) ≡ length s.contents = sym (length_flat (quads s.contents)) ∙ ap length it in
    let two : 2 ≡ length h.contents = ap length hd in
    let ph = mh.place in
    let pt = mt.place in
    let pc = mc.place in
    let second : next h ≡ 5 = omega arith in
    let b : Applet = record { entries = t.contents; starts = map signed_of (quads s.contents); methods = cs } in
    let third : next t ≡ cells_place b = omega arith in
    let fourth : next s ≡ method_place b 0 = omega arith in
    let rows = methods_stand f n (next s) ms cs cf.2 (row_stands f n (next s) s.rest ms mc.rest em) ec in
    let at : (m : ℕ) → m < length cs → MethodAt f (method_place b m) (get_or cs m []) = (λ m l.
    let j : next s + code_place cs m ≡ method_place b m = omega arith in
    subst (λ k. MethodAt f k (get_or cs m [])) j (method_stands f (next s) cs m l rows)) in
    let z : b ≡ a = cc in
    subst (AppletParts f) z (record {
      head = mh.stands;
      counted = ap {B = List ℕ} (λ k. 1 ∷ k ∷ []) (sym len) ∙ hd ∙ mh.contents;
      entries = subst (Stands f f 2) second mt.stands;
      entered = mt.contents ∙ ap (contents_at f) second;
      cells = subst (Stands f f 3) third mc.stands;
      starts = ap (λ c. map signed_of (quads c)) (mc.contents ∙ ap (contents_at f) third);
      methods = λ m l. (at m l).stands;
      sizes = λ m l. (at m l).size;
      fetched = λ m i d lm li. fetched f b m i d (whole ∙ ap Ok (sym z)) lm li;
      start_bytes = λ y.
          ap flat (starts_is (quads s.contents) (whole_quads s.contents (subst Bytes (sym mc.contents) (bytes_at f (next t) y))))
          ∙ it ∙ mc.contents ∙ ap (contents_at f) third;
      code_bytes = λ y m l. (at m l).bytes y;
    })

pub parts_of_files : PartsOfFiles
parts_of_files = record {
  in_file = λ f why tag p m e. handed f why tag p (drop p f) m refl e;
  in_holder = λ f e why tag p m q. front f e tag p m (handed (take e f) why tag p (drop p (take e f)) m refl q);
  in_applet = applet_parts;
}
