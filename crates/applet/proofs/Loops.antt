-- What the reader's loops keep, over plain lists.
use Rattle.std.proofs.Common.{◌≡◌, ℕ, zero, suc, ◌+◌, ◌-◌, ◌*◌, ◌/◌, ◌<◌, ◌≤◌, min, Bool, true, false, ◌&&◌, leb, List, [], ◌∷◌, ◌++◌, map, length, get_or, take, drop, Some, None, Ok, Err, Result, sym, refl, ap, ◌∙◌, ap₂, append_assoc, suc-add, arith, length-drop, take_all}
use lib.ListN.{length-map}
use Rattle.std.specs.List.{list_all}
use Rattle.std.specs.Result.{IsErrAnd}
use Rattle.std.specs.Simd.{first_chunks}
use Rattle.std.proofs.Math.ListN.{get_or-map}
use Rattle.std.proofs.lemmas.List.{at_drop_more, at_drop_all, drop-drop, get_or-drop}
use Rattle.std.proofs.lemmas.Bool.{leb-true, leb-false}
use Rattle.model.specs.declared.Refusal.{Refusal}
use Rattle.model.specs.Fields.{Bytes, Read, every, standing, behind, contents_at}
use Rattle.model.specs.declared.Instr.{Instr}
use Rattle.model.specs.Words.{Quad, quads, quad_at, decode, signed_of}
use Rattle.model.specs.Reading.{landed}
use Rattle.model.proofs.Accepted.{err_ok}
use Rattle.applet.specs.Applets.{nth}
use Rattle.opcodes.specs.Judging.{passed}
use Rattle.applet.specs.Stages.{gathered, places_from, one_more, method_of, due_at, judged}

-- what a `?` hands on
pub failed : {A E : Type 0} (r : Result A E) (x : E) → IsErrAnd r (λ y. y ≡ x) → r ≡ Err x
failed (Ok a) x h = absurd h
failed (Err y) x h = ap Err h

-- the library's word for the same test
pub every_all : {X : Type 0} (f : X → Bool) (xs : List X) → list_all f xs ≡ every f xs
every_all f [] = refl
every_all f (x ∷ xs) = ap (λ b. f x && b) (every_all f xs)

-- the places of methods: those gathered from place p on, then those from place `at` on
module _ (f : List ℕ) (n p : ℕ) (i at : ℕ) (gs : List ℕ) where
  abbrev pub Still : Type 0
  Still = gathered gs (places_from (n - i) f at) ≡ places_from n f p

  -- one more is to come
  one_left : i < n → Still → gathered gs (one_more at (method_of at (due_at 4 f at)) (places_from (n - (i + 1)) f (behind at (standing f at)))) ≡ places_from n f p
  one_left h s = let e : n - i ≡ suc (n - (i + 1)) = omega arith in rw e at s

  pub place_stops : (r : Refusal) → i < n → method_of at (due_at 4 f at) ≡ Err r → Still → Err r ≡ places_from n f p
  place_stops r h e s = let w = one_left h s in rw e at w

  joins : (r : Read (List ℕ)) → gathered (gs ++ at ∷ []) r ≡ gathered gs (one_more at (Ok tt) r)
  joins (Ok qs) = ap Ok (append_assoc gs (at ∷ []) qs)
  joins (Err e) = refl

  pub place_more : i < n → method_of at (due_at 4 f at) ≡ Ok tt → Still →
      gathered (gs ++ at ∷ []) (places_from (n - (i + 1)) f (behind at (standing f at))) ≡ places_from n f p
  place_more h e s = let w = one_left h s in joins (places_from (n - (i + 1)) f (behind at (standing f at))) ∙ (rw e at w)

-- a method that was read stands inside the file
pub method_inside : (f : List ℕ) (at : ℕ) → method_of at (due_at 4 f at) ≡ Ok tt → at < length f
method_inside f at e = by (leb (length f) at) refl
  where
    by : (b : Bool) → leb (length f) at ≡ b → at < length f
    by true t = absurd (err_ok (rw t at e))
    by false t = leb-false (length f) at t

quad_shift : (x : ℕ) (xs : List ℕ) (k : ℕ) → quad_at (x ∷ xs) (suc k) ≡ quad_at xs k
quad_shift x xs k = rw (suc-add k 1, suc-add k 2, suc-add k 3)

pub length_quads : (xs : List ℕ) → length (quads xs) ≡ length xs / 4
length_quads [] = refl
length_quads (a ∷ []) = refl
length_quads (a ∷ (b ∷ [])) = refl
length_quads (a ∷ (b ∷ (c ∷ []))) = refl
length_quads (a ∷ (b ∷ (c ∷ (d ∷ r)))) = let h = length_quads r in omega arith

-- the groups of four, as the code takes them
abbrev pub chunk : List ℕ → Quad
chunk bs = quad_at bs 0

pub chunks_are : (xs : List ℕ) → map chunk (first_chunks 4 (length xs / 4) xs) ≡ quads xs
chunks_are [] = refl
chunks_are (a ∷ []) = refl
chunks_are (a ∷ (b ∷ [])) = refl
chunks_are (a ∷ (b ∷ (c ∷ []))) = refl
chunks_are (a ∷ (b ∷ (c ∷ (d ∷ r)))) =
    let e : suc (suc (suc (suc (length r)))) / 4 ≡ suc (length r / 4) = omega arith in
    rw e (ap {B = List Quad} (λ qs. record { a = a; b = b; c = c; d = d } ∷ qs) (chunks_are r))

-- the instructions of a method, by groups of four: those from index i on decide
abbrev pub Deciding : ℕ → ℕ → ℕ → List (List ℕ) → ℕ → Type 0
Deciding n size p cs i = judged n size i (p + 4 * i) (map chunk (drop i cs)) ≡ judged n size 0 p (map chunk cs)

module _ (n size p : ℕ) (cs : List (List ℕ)) (i : ℕ) (d : List ℕ) where
  pass_on : (r : Read Instr) (s : Read (Unit {0})) → passed r (Ok tt) ≡ Ok tt → passed r s ≡ s
  pass_on (Ok x) s e = refl
  pass_on (Err x) s e = absurd (err_ok e)

  pass_off : (r : Read Instr) (s : Read (Unit {0})) (x : Refusal) → passed r (Ok tt) ≡ Err x → passed r s ≡ Err x
  pass_off (Ok y) s x e = absurd (err_ok (sym e))
  pass_off (Err y) s x e = e

  abbrev this : Read Instr
  this = landed size i (p + 4 * i) (decode n (chunk (get_or cs i d)))

  next_code : i < length cs → judged n size i (p + 4 * i) (map chunk (drop i cs)) ≡ passed this (judged n size (i + 1) (p + 4 * i + 4) (map chunk (drop (i + 1) cs)))
  next_code h = at_drop_more (λ xs. judged n size i (p + 4 * i) (map chunk xs)) cs i d h

  pub code_more : i < length cs → passed (landed size i (p + 4 * i) (decode n (chunk (get_or cs i d)))) (Ok tt) ≡ Ok tt → Deciding n size p cs i →
      judged n size (i + 1) (p + 4 * (i + 1)) (map chunk (drop (i + 1) cs)) ≡ judged n size 0 p (map chunk cs)
  code_more h e s =
      let a : p + 4 * (i + 1) ≡ p + 4 * i + 4 = omega arith in
      ap (λ x. judged n size (i + 1) x (map chunk (drop (i + 1) cs))) a ∙
      sym (pass_on this (judged n size (i + 1) (p + 4 * i + 4) (map chunk (drop (i + 1) cs))) e) ∙ sym (next_code h) ∙ s

  pub code_stops : (r : Refusal) → i < length cs → passed (landed size i (p + 4 * i) (decode n (chunk (get_or cs i d)))) (Ok tt) ≡ Err r → Deciding n size p cs i →
      Err r ≡ judged n size 0 p (map chunk cs)
  code_stops r h e s =
      sym (pass_off this (judged n size (i + 1) (p + 4 * i + 4) (map chunk (drop (i + 1) cs))) r e) ∙ sym (next_code h) ∙ s

  pub code_ends : length cs ≤ i → Deciding n size p cs i → Ok tt ≡ judged n size 0 p (map chunk cs)
  code_ends h s = sym (at_drop_all (λ xs. judged n size i (p + 4 * i) (map chunk xs)) cs i h) ∙ s

-- all instructions of a method
pub code_whole : (n p : ℕ) (c : List ℕ) (cs : List (List ℕ)) → cs ≡ first_chunks 4 (length c / 4) c →
    judged n (length cs) 0 p (map chunk cs) ≡ judged n (length (quads c)) 0 p (quads c)
code_whole n p c cs h =
    let e : map chunk cs ≡ quads c = ap (map chunk) h ∙ chunks_are c in
    let l : length cs ≡ length (quads c) = sym (length-map cs chunk) ∙ ap length e in
    ap₂ (λ s qs. judged n s 0 p qs) l e

-- the contents of a field, out of the file from its place on
pub field_contents : (f : List ℕ) (p : ℕ) (r : List ℕ) (n : ℕ) → r ≡ drop p f → n ≡ get_or r 1 0 * 256 + get_or r 2 0 → take n (take (length r - 3) (drop 3 r)) ≡ contents_at f p
field_contents f p r n e h =
    let t : take (length r - 3) (drop 3 r) ≡ drop 3 r = take_all (length r - 3) (drop 3 r) (omega (arith, length-drop 3 r)) in
    let d : drop 3 r ≡ drop (p + 3) f = ap (drop 3) e ∙ drop-drop 3 p f ∙ ap (λ k. drop k f) (omega arith) in
    let a : get_or r 1 0 ≡ get_or f (p + 1) 0 = ap (λ (xs : List ℕ). get_or xs 1 0) e ∙ get_or-drop p f 1 0 in
    let b : get_or r 2 0 ≡ get_or f (p + 2) 0 = ap (λ (xs : List ℕ). get_or xs 2 0) e ∙ get_or-drop p f 2 0 in
    let k : n ≡ get_or f (p + 1) 0 * 256 + get_or f (p + 2) 0 = omega arith in
    ap₂ (λ (m : ℕ) (xs : List ℕ). take m xs) k (t ∙ d)

-- no more can be taken than there is
pub take_min : (m : ℕ) (xs : List ℕ) → take (min m (length xs)) xs ≡ take m xs
take_min m xs = by (leb m (length xs)) refl
  where
    by : (b : Bool) → leb m (length xs) ≡ b → take (min m (length xs)) xs ≡ take m xs
    by true t = let h = leb-true m (length xs) t in let e : min m (length xs) ≡ m = omega arith in rw e
    by false t =
        let h = leb-false m (length xs) t in
        let e : min m (length xs) ≡ length xs = omega arith in
        rw e (take_all (length xs) xs (omega arith) ∙ sym (take_all m xs (omega arith)))

-- an item inside a list, and past it
pub nth_in : {X : Type 0} (xs : List X) (i : ℕ) (d : X) → i < length xs → nth xs i ≡ Some (get_or xs i d)
nth_in [] i d h = absurd (omega arith)
nth_in (x ∷ xs) zero d h = refl
nth_in (x ∷ xs) (suc i) d h = nth_in xs i d (omega arith)

pub nth_past : {X : Type 0} (xs : List X) (i : ℕ) → length xs ≤ i → nth xs i ≡ None
nth_past [] i h = refl
nth_past (x ∷ xs) zero h = absurd (omega arith)
nth_past (x ∷ xs) (suc i) h = nth_past xs i (omega arith)

-- a group of four by its index
pub nth_quads : {X : Type 0} (g : Quad → X) (xs : List ℕ) (i : ℕ) → 4 * i + 4 ≤ length xs → nth (map g (quads xs)) i ≡ Some (g (quad_at xs (4 * i)))
nth_quads g [] i h = absurd (omega arith)
nth_quads g (a ∷ []) i h = absurd (omega arith)
nth_quads g (a ∷ (b ∷ [])) i h = absurd (omega arith)
nth_quads g (a ∷ (b ∷ (c ∷ []))) i h = absurd (omega arith)
nth_quads g (a ∷ (b ∷ (c ∷ (d ∷ r)))) zero h = refl
nth_quads g (a ∷ (b ∷ (c ∷ (d ∷ r)))) (suc i) h =
    let e : 4 * suc i ≡ suc (suc (suc (suc (4 * i)))) = omega arith in
    nth_quads g r i (omega arith) ∙ ap (λ q. Some (g q))
    (sym (ap (quad_at (a ∷ (b ∷ (c ∷ (d ∷ r))))) e ∙ quad_shift a (b ∷ c ∷ d ∷ r) (suc (suc (suc (4 * i)))) ∙ quad_shift b (c ∷ d ∷ r) (suc (suc (4 * i))) ∙
    quad_shift c (d ∷ r) (suc (4 * i)) ∙ quad_shift d r (4 * i)))

-- the start value at an index, and past the last one
module _ (xs : List ℕ) (cs : List (List ℕ)) (i : ℕ) (e : cs ≡ first_chunks 4 (length xs / 4) xs) where
  starts_are : map signed_of (map chunk cs) ≡ map signed_of (quads xs)
  starts_are = ap (map signed_of) (ap (map chunk) e ∙ chunks_are xs)

  pub nth_start : i < length cs → Some (signed_of (chunk (get_or cs i []))) ≡ nth (map signed_of (quads xs)) i
  nth_start h =
      let l = length-map cs chunk in
      let m = length-map (map chunk cs) signed_of in
      sym (ap Some (get_or-map signed_of (map chunk cs) i (chunk []) ∙ ap signed_of (get_or-map chunk cs i []))) ∙
      sym (nth_in (map signed_of (map chunk cs)) i (signed_of (chunk [])) (omega arith)) ∙ ap (λ zs. nth zs i) starts_are

  pub no_start : length cs ≤ i → None ≡ nth (map signed_of (quads xs)) i
  no_start h =
      let l = length-map cs chunk in
      let m = length-map (map chunk cs) signed_of in
      sym (nth_past (map signed_of (map chunk cs)) i (omega arith)) ∙ ap (λ zs. nth zs i) starts_are

-- a list of bytes, byte by byte
pub bytes_from : (xs : List ℕ) → ((i : ℕ) → get_or xs i 0 < 256) → Bytes xs
bytes_from [] h = tt
bytes_from (x ∷ xs) h = (h 0, bytes_from xs (λ i. h (suc i)))
