-- What is read was written so, and is within the limits.
use Rattle.std.proofs.Common.{◌≡◌, ℕ, zero, suc, ◌+◌, ◌<◌, Bool, true, false, ◌&&◌, eqb, ltb, leb, List, [], ◌∷◌, ◌++◌, map, length, get_or, take, drop, Some, None, Ok, Err, Option, sym, refl, ap, ◌∙◌, ap₂, arith, take-append-drop, w32, SFits}
use lib.ListN.{length-map}
use borrow.Author.Gap.{read_sfits}
use Rattle.std.specs.List.{AllByRecursion}
use Rattle.std.proofs.ByRecursion.{All-take, All-drop}
use Rattle.std.proofs.lemmas.List.{length-take-le}
use Rattle.std.proofs.lemmas.Int.{of_z-to_z}
use Rattle.std.proofs.lemmas.Bool.{ltb-true, leb-true, eqb-true, and_parts, cond_both}
use Rattle.model.specs.declared.Instr.{Instr}
use Rattle.model.specs.Machine.{Applet}
use Rattle.model.specs.Words.{Quad, quads, flat, word, signed_of, quad_of, encode, lands}
use Rattle.model.specs.declared.Refusal.{Refusal}
use Rattle.model.specs.Fields.{Bytes, Read, Part, Field, refuse, need, ◌>>=◌, ◌>>◌, within, Within, every, items, next, expect, over, field}
use Rattle.model.specs.Reading.{landed, read_code, read_codes, code_fields, read_applet, write_codes, write_applet, Sound, Valid}
use Rattle.model.proofs.Words.{high_word, low_word, length_flat, flat_quads, decoded, same_quad}
use Rattle.model.specs.declared.Refusal.TheVariants.{BadField, BadLanding}

pub err_ok : {A : Type 0} {e : Refusal} {a : A} → Err e ≡ Ok a → ⊥
err_ok p = let z : ◌≡◌ {A = ℕ} 0 1 = cc in omega arith

-- a read that succeeds, step by step
pub bound : {A B G : Type 0} (r : Read A) (f : A → Read B) (b : B) → (r >>= f) ≡ Ok b → ((a : A) → r ≡ Ok a → f a ≡ Ok b → G) → G
unfolding ◌>>=◌
bound (Ok a) f b h k = k a refl h
bound (Err e) f b h k = absurd (err_ok h)

pub needed : {B G : Type 0} (t : Bool) (r : Refusal) (s : Read B) (b : B) → (need t r >> s) ≡ Ok b → (t ≡ true → s ≡ Ok b → G) → G
unfolding ◌>>=◌
needed true r s b h k = k refl h
needed false r s b h k = absurd (err_ok h)

pub within_true : (a b n : ℕ) → within a b n ≡ true → Within a b n
within_true a b n h = let p = and_parts _ _ h in (leb-true a n p.0, leb-true n b p.1)

pub every_true : {X : Type 0} (f : X → Bool) (P : X → Type 0) → ((x : X) → f x ≡ true → P x) → (xs : List X) → every f xs ≡ true → AllByRecursion P xs
every_true f P k [] h = tt
every_true f P k (x ∷ xs) h = let p = and_parts _ _ h in (k x p.0, every_true f P k xs p.1)

-- four bytes
abbrev pub Whole : Quad → Type 0
Whole q = (q.a < 256) × (q.b < 256) × (q.c < 256) × (q.d < 256)

pub whole_quads : (bs : List ℕ) → Bytes bs → AllByRecursion Whole (quads bs)
whole_quads [] h = tt
whole_quads (a ∷ []) h = tt
whole_quads (a ∷ b ∷ []) h = tt
whole_quads (a ∷ b ∷ c ∷ []) h = tt
whole_quads (a ∷ b ∷ c ∷ d ∷ r) h = ((h.0, h.1.0, h.1.1.0, h.1.1.1.0), whole_quads r h.1.1.1.1)

-- a field that was met: where, and of bytes what it was met in
pub record Met (tag p : ℕ) (r : List ℕ) (m : Part) : Type 0 where
  pub here : m.place ≡ p
  pub split : Bytes r → field tag m.contents ++ m.rest ≡ r
  pub contents : Bytes r → Bytes m.contents
  pub rest : Bytes r → Bytes m.rest

pub met : (b : ℕ → Refusal) (tag p : ℕ) (r : List ℕ) (m : Part) → expect b tag p r ≡ Ok m → Met tag p r m
unfolding expect field
met b tag p [] m e = absurd (err_ok e)
met b tag p (t ∷ []) m e = absurd (err_ok e)
met b tag p (t ∷ h ∷ []) m e = absurd (err_ok e)
met b tag p (t ∷ h ∷ l ∷ r) m e = cond_both (eqb t tag && leb (word h l) (length r))
    (Ok (record { place = p; contents = take (word h l) r; rest = drop (word h l) r })) (refuse (b p)) (λ x. x ≡ Ok m → Met tag p (t ∷ h ∷ l ∷ r) m)
    (λ y q.
    let z : record { place = p; contents = take (word h l) r; rest = drop (word h l) r } ≡ m = cc in
    let w = and_parts _ _ y in
    let fits = leb-true _ _ w.1 in
    rw (← z) (record {
      here = refl;
      split = λ k. rw (
        length-take-le (word h l) r fits,
        high_word h l k.1.1.0,
        low_word h l k.1.1.0,
        take-append-drop (word h l) r,
        eqb-true t tag w.0,
      );
      contents = λ k. All-take (λ b. b < 256) (word h l) r k.1.1.1;
      rest = λ k. All-drop (λ b. b < 256) (word h l) r k.1.1.1;
    }))
    (λ y q. absurd (err_ok q)) e

pub landed_is : (size i p : ℕ) (o : Option Instr) (c : Instr) → landed size i p o ≡ Ok c → (o ≡ Some c) × (lands size i c ≡ true)
landed_is size i p None c e = absurd (err_ok e)
landed_is size i p (Some d) c e = cond_both (lands size i d) (Ok d) (refuse (BadLanding p)) (λ x. x ≡ Ok c → (Some d ≡ Some c) × (lands size i c ≡ true))
    (λ y q. let z : d ≡ c = cc in (ap Some z, rw (← z) y)) (λ y q. absurd (err_ok q)) e

pub read_code_is : (n size i p : ℕ) (qs : List Quad) (cs : List Instr) → read_code n size i p qs ≡ Ok cs →
    (AllByRecursion Whole qs → map encode cs ≡ qs) × (length cs ≡ length qs) × Sound n size i cs
read_code_is n size i p [] cs e = let z : [] ≡ cs = cc in rw (← z) (λ h. refl, refl, tt)
read_code_is n size i p (q ∷ qs) cs e =
    bound _ _ _ e λ c e₁ e₂.
    bound _ _ _ e₂ λ ds e₃ e₄.
    let l = landed_is size i p _ _ e₁ in
    let d = decoded n q c l.0 in
    let rest = read_code_is n size (i + 1) (p + 4) qs ds e₃ in
    let z : c ∷ ds ≡ cs = cc in
    rw (← z) (λ h. ap₂ {C = List Quad} (λ y ys. y ∷ ys) (d.0 h.0.3) (rest.0 h.1), ap suc rest.1, ((d.1, l.1), rest.2))

pub items_true : (a b : ℕ) (c : List ℕ) → items a b c ≡ true → (flat (quads c) ≡ c) × Within a b (length (quads c))
items_true a b c h =
    let p = and_parts _ _ h in
    let e = flat_quads c (eqb-true _ _ p.0) in
    let w = within_true a b _ p.1 in
    let l = sym (length_flat (quads c)) ∙ ap length e in
    (e, omega arith)

-- fields of code in a row
abbrev pub row : List Field → List ℕ
row [] = []
row (m ∷ ms) = field 4 m.contents ++ row ms

-- a field of code of a right size
abbrev pub Coded : Field → Type 0
Coded m = items 1 4096 m.contents ≡ true

-- a field of bytes
abbrev pub ByteField : Field → Type 0
ByteField m = Bytes m.contents

pub over_is : {B : Type 0} (b : ℕ → Refusal) (p : ℕ) (r : List ℕ) (s : Read B) (x : B) → (over b p r >> s) ≡ Ok x → ([] ≡ r) × (s ≡ Ok x)
unfolding over ◌>>=◌
over_is b p [] s x e = (refl, e)
over_is b p (y ∷ r) s x e = absurd (err_ok e)

pub code_fields_is : (n p : ℕ) (r : List ℕ) (ms : List Field) → code_fields n p r ≡ Ok ms →
    (Bytes r → (row ms ≡ r) × AllByRecursion ByteField ms) × (length ms ≡ n) × AllByRecursion Coded ms
code_fields_is zero p r ms e = let o = over_is BadField p r (Ok []) ms e in let z : [] ≡ ms = cc in rw (← z) (λ k. (o.0, tt), refl, tt)
code_fields_is (suc n) p r ms e =
    bound _ _ _ e λ m e₁ e₂.
    needed _ _ _ _ e₂ λ t e₃.
    bound _ _ _ e₃ λ ns e₄ e₅.
    let w = met BadField 4 p r m e₁ in
    let rest = code_fields_is n (next m) m.rest ns e₄ in
    let z : record { place = p; contents = m.contents } ∷ ns ≡ ms = cc in
    rw (← z) (
      λ k. let j = rest.0 (w.rest k) in (ap (λ x. field 4 m.contents ++ x) j.0 ∙ w.split k, (w.contents k, j.1)),
      ap suc rest.1,
      (t, rest.2),
    )

pub read_codes_is : (n : ℕ) (ms : List Field) (cs : List (List Instr)) → AllByRecursion Coded ms → read_codes n ms ≡ Ok cs →
    (AllByRecursion ByteField ms → write_codes cs ≡ row ms) × (length cs ≡ length ms) × AllByRecursion (λ c. Within 1 4096 (length c)) cs × AllByRecursion (λ c. Sound n (length c) 0 c) cs
read_codes_is n [] cs k e = let z : [] ≡ cs = cc in rw (← z) (λ h. refl, refl, tt, tt)
read_codes_is n (m ∷ ms) cs k e =
    bound _ _ _ e λ c e₁ e₂.
    bound _ _ _ e₂ λ ds e₃ e₄.
    let i = items_true 1 4096 m.contents k.0 in
    let d = read_code_is n _ 0 _ _ c e₁ in
    let l = d.1 in
    let rest = read_codes_is n ms ds k.1 e₃ in
    let z : c ∷ ds ≡ cs = cc in
    rw (← z) (
      λ h. ap₂ (λ x y. field 4 x ++ y) (ap flat (d.0 (whole_quads m.contents h.0)) ∙ i.0) (rest.0 h.1),
      ap suc rest.1,
      (rw l i.1, rest.2),
      (rw l d.2, rest.3),
    )

pub starts_signed : (qs : List Quad) → AllByRecursion (SFits w32) (map signed_of qs)
starts_signed [] = tt
starts_signed (q ∷ qs) = (read_sfits w32 _, starts_signed qs)

pub starts_is : (qs : List Quad) → AllByRecursion Whole qs → map quad_of (map signed_of qs) ≡ qs
starts_is [] h = refl
starts_is (q ∷ qs) h =
    let b = of_z-to_z w32 (word (word (word q.a q.b) q.c) q.d) (omega arith) in
    ap₂ {C = List Quad} (λ y ys. y ∷ ys) (same_quad (quad_of (signed_of q)) q (rw b (omega arith))) (starts_is qs h.1)

pub two_bytes : (c : List ℕ) → length c ≡ 2 → get_or c 0 0 ∷ get_or c 1 0 ∷ [] ≡ c
two_bytes [] e = absurd (omega arith)
two_bytes (x ∷ []) e = absurd (omega arith)
two_bytes (x ∷ y ∷ []) e = refl
two_bytes (x ∷ y ∷ z ∷ r) e = absurd (omega arith)

pub head_is : (c : List ℕ) → eqb (length c) 2 && eqb (get_or c 0 0) 1 && within 1 32 (get_or c 1 0) ≡ true → (1 ∷ get_or c 1 0 ∷ [] ≡ c) × Within 1 32 (get_or c 1 0)
head_is c t =
    let p = and_parts _ _ t in
    let q = and_parts _ _ p.0 in
    (ap {B = List ℕ} (λ x. x ∷ get_or c 1 0 ∷ []) (sym (eqb-true _ _ q.1)) ∙ two_bytes c (eqb-true _ _ q.0), within_true 1 32 _ p.1)

-- what is read is valid, and of bytes what was written
pub accepted : (f : List ℕ) (a : Applet) → read_applet f ≡ Ok a → (Bytes f → write_applet a ≡ f) × Valid a
accepted f a e =
    needed _ _ _ _ e λ short e.
    bound _ _ _ e λ h eh e.
    needed _ _ _ _ e λ th e.
    bound _ _ _ e λ t et e.
    needed _ _ _ _ e λ tm e.
    bound _ _ _ e λ s es e.
    needed _ _ _ _ e λ ts e.
    bound _ _ _ e λ ms em e.
    bound _ _ _ e λ cs ec e.
    let n = get_or h.contents 1 0 in
    let mh = met BadField 1 0 f h eh in
    let mt = met BadField 2 _ h.rest t et in
    let mc = met BadField 3 _ t.rest s es in
    let hd = head_is h.contents th in
    let tp = and_parts _ _ tm in
    let it = items_true 0 32 s.contents ts in
    let cf = code_fields_is n _ s.rest ms em in
    let rc = read_codes_is n ms cs cf.2 ec in
    let len : length cs ≡ n = rc.1 ∙ cf.1 in
    let b : Applet = record { entries = t.contents; starts = map signed_of (quads s.contents); methods = cs } in
    let z : b ≡ a = cc in
    let w : Bytes f → write_applet b ≡ f = (λ k.
    let kt = mh.rest k in
    let kc = mt.rest kt in
    let st = starts_is (quads s.contents) (whole_quads s.contents (mc.contents kc)) in
    let c = cf.0 (mc.rest kc) in
    rw (len, hd.0, st, it.0, rc.0 c.1, c.0, mc.split kc, mt.split kt) (mh.split k)) in
    rw (← z) (
      w,
      record {
        methods = rw len hd.1;
        threads = within_true 1 8 _ tp.0;
        entered = every_true (λ e. ltb e n) (λ e. e < length cs) (λ e h. rw len (ltb-true e n h)) t.contents tp.1;
        cells = rw (length-map (quads s.contents) signed_of) it.1.1;
        signed = starts_signed (quads s.contents);
        sizes = rc.2;
        sound = rw len rc.3;
      },
    )
