-- The woven file of an applet that was read.
use Rattle.std.proofs.Common.{◌≡◌, ℕ, ◌+◌, ◌*◌, ◌<◌, ◌≤◌, leb, List, [], ◌∷◌, ◌++◌, map, length, get_or, take, drop, Ok, Err, sym, refl, ap, ◌∙◌, ap₂, append_assoc, arith, length-append, take-append-drop}
use lib.ListN.{length-map}
use Rattle.std.specs.List.{AllByRecursion}
use Rattle.std.proofs.lemmas.List.{at_drop_more, at_drop_all, take_more, take_all, get_or-map, append-nil}
use Rattle.std.proofs.lemmas.Bool.{le-leb, lt-leb, leb-true}
use Rattle.model.specs.declared.Instr.{Instr}
use Rattle.model.specs.declared.Own.{Own}
use Rattle.model.specs.declared.Test.{Test}
use Rattle.model.specs.declared.Moment.{Moment}
use Rattle.model.specs.declared.Refusal.{Refusal}
use Rattle.model.specs.declared.Refusal.TheVariants.{MethodTooLong, FileTooLong, AreaTooShort}
use Rattle.model.specs.Machine as machine
use Rattle.model.specs.Policy.{Automaton, Blocks}
use Rattle.model.specs.Fields.{Read, need, ◌>>=◌, ◌>>◌, field}
use Rattle.model.specs.Words.{flat, quad_of}
use Rattle.model.specs.Weave.{Plain, woven}
use Rattle.model.specs.Reading.{write_code, write_codes, write_applet, method_place, code_place, instr_place}
use Rattle.model.specs.Files.{plain_code, plain_codes, plain_of, sized}
use Rattle.model.specs.Areas.{over_area}
use Rattle.model.proofs.Accepted.{bound, needed, err_ok}
use Rattle.model.proofs.Places.{length_field, write_codes_append}
use Rattle.policy.proofs.Asked.{same}
use Rattle.weaver.specs.Pieces.{own_of, owns}
use Rattle.weaver.specs.Weaves.{forget, plain_part, woven_of, woven_file, woven_length, woven_answer, woven_area, MethodAt}
use Rattle.weaver.specs.declared.pen.Pen.{Pen}
use Rattle.weaver.specs.Pens.{Room, Wrote}
use Rattle.weaver.proofs.Bytes.{wrote_more, write_length, cells_length}
use Rattle.weaver.proofs.Passes.{with_code}

-- ---- the fields of methods

place_next : (ws : List (List Instr)) (m : ℕ) → m < length ws → write_codes (take (m + 1) ws) ≡ write_codes (take m ws) ++ field 4 (write_code (get_or ws m []))
place_next ws m h =
    ap write_codes (take_more ws m [] h) ∙ write_codes_append (take m ws) (get_or ws m [] ∷ []) ∙ ap (λ z. write_codes (take m ws) ++ z) (one (get_or ws m []))
  where
    one : (c : List Instr) → write_codes (c ∷ []) ≡ field 4 (write_code c)
    one c = append-nil (field 4 (write_code c))

field_size : (c : List Instr) → length (field 4 (write_code c)) ≡ 3 + 4 * length c
field_size c = let f = length_field 4 (write_code c) in let w = write_length c in omega arith

pub size_next : (ws : List (List Instr)) (m : ℕ) → m < length ws → code_place ws (m + 1) ≡ code_place ws m + (3 + 4 * length (get_or ws m []))
size_next ws m h =
    let f = field_size (get_or ws m []) in
    ap length (place_next ws m h) ∙ length-append (write_codes (take m ws)) (field 4 (write_code (get_or ws m []))) ∙ omega arith

-- there is room for the next field
pub size_below : (ws : List (List Instr)) (m : ℕ) → m < length ws → code_place ws m + (3 + 4 * length (get_or ws m [])) ≤ length (write_codes ws)
size_below ws m h =
    let e : write_codes ws ≡ write_codes (take (m + 1) ws) ++ write_codes (drop (m + 1) ws) = ap write_codes (sym (take-append-drop (m + 1) ws)) ∙ write_codes_append (take (m + 1) ws) (drop (m + 1) ws) in
    let l = ap length e ∙ length-append (write_codes (take (m + 1) ws)) (write_codes (drop (m + 1) ws)) in
    let n = size_next ws m h in
    omega arith

module _ (A : Automaton) (B : Blocks) (a : machine.Applet) where
  abbrev blk : ℕ → Moment → List Test
  blk k t = B k t 0

  abbrev W : machine.Applet
  W = woven_of A B a

  abbrev ws : List (List Instr)
  ws = W.methods

  pub count : length ws ≡ length a.methods
  count = length-map (map (map own_of) a.methods) (woven A.watched blk) ∙ length-map a.methods (map own_of)

  -- the woven code of a method
  pub woven_at : (m place : ℕ) (code : List (List ℕ)) → MethodAt a m place code → get_or ws m [] ≡ woven A.watched blk (owns (length a.methods) code)
  woven_at m place code h =
      let l = length-map a.methods (map own_of) in
      let t = h.there in
      get_or-map (woven A.watched blk) (map (map own_of) a.methods) m [] [] (omega arith) ∙
      ap (woven A.watched blk) (get_or-map (map own_of) a.methods m [] [] t ∙ ap (map own_of) (sym h.decoded))

  -- ---- the length of the file

  pub file_length : length (write_applet W) ≡ 11 + length a.entries + 4 * length A.starts + length (write_codes ws)
  file_length =
      let c = length_field 3 (flat (map quad_of A.starts)) in
      let l = cells_length A.starts in
      let b = length_field 2 a.entries in
      let h = length_field 1 (1 ∷ length ws ∷ []) in
      let x = length-append (field 3 (flat (map quad_of A.starts))) (write_codes ws) in
      let y = length-append (field 2 a.entries) (field 3 (flat (map quad_of A.starts)) ++ write_codes ws) in
      let z = length-append (field 1 (1 ∷ length ws ∷ [])) (field 2 a.entries ++ (field 3 (flat (map quad_of A.starts)) ++ write_codes ws)) in
      omega arith

  -- the methods up to m are within their limit, and the next one stands at `len`
  pub record Measured (m len : ℕ) : Type 0 where
    pub within : m ≤ length a.methods
    pub is : len ≡ method_place W m
    pub small : len ≤ 147 + 16387 * m
    pub rest : sized (method_place a) m (drop m ws) ≡ sized (method_place a) 0 ws

  module _ (m len : ℕ) (h : Measured m len) (t : m < length ws) where
    sized_next : sized (method_place a) m (drop m ws) ≡ (need (leb (length (get_or ws m [])) 4096) (MethodTooLong (method_place a m)) >> sized (method_place a) (m + 1) (drop (m + 1) ws))
    sized_next = at_drop_more (sized (method_place a) m) ws m [] t

    pub measured_more : (size : ℕ) → size ≡ length (get_or ws m []) → length (get_or ws m []) ≤ 4096 → (k : ℕ) → k ≡ m + 1 → Measured k (len + (3 + 4 * size))
    unfolding ◌>>=◌
    measured_more size e n k next =
        let c = count in
        let s = size_next ws m t in
        let i = h.is in
        let b = h.small in
        let z = le-leb (length (get_or ws m [])) 4096 n in
        rw next (record {
          within = omega arith;
          is = omega arith;
          small = omega arith;
          rest = sym (rw z at sized_next) ∙ h.rest;
        })

    pub measured_stops : {X : Type 0} (r : Read X) → 4096 < length (get_or ws m []) → Err (MethodTooLong (method_place a m)) ≡ (sized (method_place a) 0 ws >> r)
    unfolding ◌>>=◌
    measured_stops r n =
        let z = lt-leb (length (get_or ws m [])) 4096 n in
        let s = sym (rw z at sized_next) ∙ h.rest in
        rw (← s)

  pub measured_all : (m len : ℕ) → Measured m len → length a.methods ≤ m → Ok len ≡ (sized (method_place a) 0 ws >> Ok (length (write_applet W)))
  unfolding ◌>>=◌
  measured_all m len h l =
      let c = count in
      let s : sized (method_place a) 0 ws ≡ Ok tt = sym h.rest ∙ at_drop_all (sized (method_place a) m) ws m (omega arith) in
      let f = file_length in
      let i = h.is in
      let k : code_place ws m ≡ length (write_codes ws) = ap (λ cs. length (write_codes cs)) (take_all m ws (omega arith)) in
      rw s (ap Ok (omega arith))

  -- ---- the methods, one after the other

  module _ (p q : Pen) (m : ℕ) (h : Wrote p (write_codes (take m ws)) q) (t : m < length ws) (room : Room p (length (write_codes ws))) where
    pub method_room : Room q (3 + 4 * length (get_or ws m []))
    method_room = let b = size_below ws m t in let k = h.at in let l = h.long in omega arith

    pub method_more : (r : Pen) → Wrote q (field 4 (write_code (get_or ws m []))) r → (k : ℕ) → k ≡ m + 1 → Wrote p (write_codes (take k ws)) r
    method_more r x k next = let b = method_room in let l = h.long in rw (next, place_next ws m t) (wrote_more h x (omega arith))

  pub methods_all : (p q : Pen) (m : ℕ) → Wrote p (write_codes (take m ws)) q → length a.methods ≤ m → Wrote p (write_codes ws) q
  methods_all p q m h l = let c = count in rw (take_all m ws (omega arith)) at h

  -- ---- the fields, one after the other

  pub file_put : (p0 p1 p2 p3 p4 : Pen) (n : ℕ) (es : List ℕ) → n ≡ length ws → es ≡ a.entries → Room p0 (length (write_applet W)) →
      Wrote p0 (field 1 (1 ∷ n ∷ [])) p1 → Wrote p1 (field 2 es) p2 → Wrote p2 (field 3 (flat (map quad_of A.starts))) p3 → Wrote p3 (write_codes ws) p4 → Wrote p0 (write_applet W) p4
  file_put p0 p1 p2 p3 p4 n es en ee room x1 x2 x3 x4 =
      let f1 = field 1 (1 ∷ length ws ∷ []) in
      let f2 = field 2 a.entries in
      let f3 = field 3 (flat (map quad_of A.starts)) in
      let l1 = length_field 1 (1 ∷ length ws ∷ []) in
      let l2 = length_field 2 a.entries in
      let l3 = length_field 3 (flat (map quad_of A.starts)) in
      let lc = cells_length A.starts in
      let fl = file_length in
      let y1 : Wrote p0 f1 p1 = rw en at x1 in
      let y2 : Wrote p1 f2 p2 = rw ee at x2 in
      let a1 = y1.at in
      let g1 = y1.long in
      let w2 = wrote_more y1 y2 (omega arith) in
      let a2 = y2.at in
      let g2 = y2.long in
      let w3 = wrote_more w2 x3 (omega arith) in
      let a3 = x3.at in
      let w4 = wrote_more w3 x4 (omega arith) in
      rw (append_assoc (f1 ++ f2) f3 (write_codes ws), append_assoc f1 f2 (f3 ++ write_codes ws)) at w4

-- ---- plain applets

code_own : (at : ℕ → ℕ) (i : ℕ) (cs : List Instr) (ds : List Own) → plain_code at i cs ≡ Ok ds → ds ≡ map own_of cs
code_own at i [] ds e = let z : [] ≡ ds = cc in sym z
code_own at i (Instr.Own c ∷ cs) ds e =
    bound _ _ _ e λ es e₁ e₂.
    let z : c ∷ es ≡ ds = cc in
    sym z ∙ ap {B = List Own} (λ r. c ∷ r) (code_own at (i + 1) cs es e₁)
code_own at i (Instr.Lock k ∷ cs) ds e = absurd (err_ok e)
code_own at i (Instr.Unlock ∷ cs) ds e = absurd (err_ok e)
code_own at i (Instr.Test c ∷ cs) ds e = absurd (err_ok e)

codes_own : (at : ℕ → ℕ → ℕ) (m : ℕ) (cs : List (List Instr)) (ds : List (List Own)) → plain_codes at m cs ≡ Ok ds → ds ≡ map (map own_of) cs
codes_own at m [] ds e = let z : [] ≡ ds = cc in sym z
codes_own at m (c ∷ cs) ds e =
    bound _ _ _ e λ d e₁ e.
    bound _ _ _ e λ es e₂ e.
    let z : d ∷ es ≡ ds = cc in
    sym z ∙ ap₂ {C = List (List Own)} (λ x y. x ∷ y) (code_own (at m) 0 c d e₁) (codes_own at (m + 1) cs es e₂)

plain_own : (a : machine.Applet) (p : Plain) → plain_of a ≡ Ok p → p ≡ plain_part a
plain_own a p e =
    needed _ _ _ _ e λ t e.
    bound _ _ _ e λ cs e₁ e.
    let z : with_code a cs ≡ p = cc in
    sym z ∙ ap (with_code a) (codes_own (instr_place a) 0 a.methods cs e₁)

pub plain_ok : (a : machine.Applet) → Ok tt ≡ forget (plain_of a) → plain_of a ≡ Ok (plain_part a)
plain_ok a e = by (plain_of a) refl e
  where
    by : (r : Read Plain) → plain_of a ≡ r → Ok tt ≡ forget r → r ≡ Ok (plain_part a)
    by (Ok p) h e = ap Ok (plain_own a p h)
    by (Err x) h e = absurd (err_ok (sym e))

pub plain_err : (a : machine.Applet) (x : Refusal) → Err x ≡ forget (plain_of a) → plain_of a ≡ Err x
plain_err a x e = by (plain_of a) e
  where
    by : (r : Read Plain) → Err x ≡ forget r → r ≡ Err x
    by (Ok p) e = absurd (err_ok e)
    by (Err y) e = sym (same e)

-- ---- the length

pub length_ok : (A : Automaton) (B : Blocks) (a : machine.Applet) (len : ℕ) → Ok len ≡ woven_length A B a →
    (sized (method_place a) 0 (woven_of A B a).methods ≡ Ok tt) × (len ≡ length (write_applet (woven_of A B a)))
unfolding ◌>>=◌
length_ok A B a len e = by (sized (method_place a) 0 (woven_of A B a).methods) (length (write_applet (woven_of A B a))) e
  where
    by : (s : Read (Unit {0})) (n : ℕ) → Ok len ≡ (s >> Ok n) → (s ≡ Ok tt) × (len ≡ n)
    by (Ok tt) n e = (refl, (let z : len ≡ n = cc in z))
    by (Err x) n e = absurd (err_ok (sym e))

pub length_err : (A : Automaton) (B : Blocks) (a : machine.Applet) (x : Refusal) → Err x ≡ woven_length A B a → sized (method_place a) 0 (woven_of A B a).methods ≡ Err x
unfolding ◌>>=◌
length_err A B a x e = by (sized (method_place a) 0 (woven_of A B a).methods) (length (write_applet (woven_of A B a))) e
  where
    by : (s : Read (Unit {0})) (n : ℕ) → Err x ≡ (s >> Ok n) → s ≡ Err x
    by (Ok u) n e = absurd (err_ok e)
    by (Err y) n e = sym (same e)

-- methods within their limit
pub sized_all : (at : ℕ → ℕ) (m : ℕ) (cs : List (List Instr)) → sized at m cs ≡ Ok tt → AllByRecursion (λ c. length c ≤ 4096) cs
sized_all at m [] e = tt
sized_all at m (c ∷ cs) e = needed _ _ _ _ e λ t e. (leb-true _ _ t, sized_all at (m + 1) cs e)

-- ---- the whole

module _ (A : Automaton) (B : Blocks) (a : machine.Applet) (n : ℕ) where
  abbrev file : List ℕ
  file = write_applet (woven_of A B a)

  pub file_plain : (x : Refusal) → plain_of a ≡ Err x → woven_file A B a n ≡ Err x
  unfolding ◌>>=◌
  file_plain x e = rw e

  module _ (plain : plain_of a ≡ Ok (plain_part a)) where
    pub file_sized : (x : Refusal) → sized (method_place a) 0 (woven_of A B a).methods ≡ Err x → woven_file A B a n ≡ Err x
    unfolding ◌>>=◌
    file_sized x e = rw (plain, e)

    module _ (size : sized (method_place a) 0 (woven_of A B a).methods ≡ Ok tt) where
      pub file_long : 65535 < length file → woven_file A B a n ≡ Err FileTooLong
      unfolding ◌>>=◌
      file_long h = rw (plain, size, lt-leb (length file) 65535 h)

      pub file_wide : length file ≤ 65535 → n < length file → woven_file A B a n ≡ Err AreaTooShort
      unfolding ◌>>=◌
      file_wide h l = rw (plain, size, le-leb (length file) 65535 h, lt-leb (length file) n l)

      pub file_done : length file ≤ 65535 → length file ≤ n → woven_file A B a n ≡ Ok file
      unfolding ◌>>=◌
      file_done h l = rw (plain, size, le-leb (length file) 65535 h, le-leb (length file) n l)

-- what that answers and leaves in the area
module _ (A : Automaton) (B : Blocks) (a : machine.Applet) (xs : List ℕ) where
  pub ends_err : (x : Refusal) → woven_file A B a (length xs) ≡ Err x → (Err x ≡ woven_answer A B a xs) × (xs ≡ woven_area A B a xs)
  unfolding ◌>>=◌
  ends_err x e = (rw e, rw e)

  pub ends_ok : (g : List ℕ) → woven_file A B a (length xs) ≡ Ok g → (Ok (length g) ≡ woven_answer A B a xs) × (over_area g xs ≡ woven_area A B a xs)
  unfolding ◌>>=◌
  ends_ok g e = (rw e, rw e)
