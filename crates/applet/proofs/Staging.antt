-- The reading of an applet place by place is the model's reading.
use Rattle.std.proofs.Common.{◌≡◌, ℕ, zero, suc, ◌+◌, ◌*◌, ◌/◌, ◌%◌, ◌<◌, min, Bool, true, false, cond, ◌&&◌, eqb, ltb, leb, List, [], ◌∷◌, map, length, get_or, take, drop, Some, None, Ok, Err, Option, sym, refl, ap, ◌∙◌, subst, ap₂, arith, length-drop, length-take}
use lib.ListN.{length-map}
use Rattle.std.proofs.lemmas.List.{drop_all}
use Rattle.std.proofs.lemmas.Bool.{leb-true, leb-false, eqb-true, and_parts}
use Rattle.model.specs.declared.Instr.{Instr}
use Rattle.model.specs.declared.Refusal.TheVariants.{BadField, BadSize, BadLanding}
use Rattle.model.specs.Words.{Quad, quads, signed_of, decode, lands}
use Rattle.model.specs.Machine as machine
use Rattle.model.specs.Fields.{Read, Field, Part, refuse, need, ◌>>=◌, ◌>>◌, within, every, items, next, expect, over, standing, behind, contents_at}
use Rattle.model.proofs.Fetching.{code_place_more}
use Rattle.model.specs.Reading.{code_place, method_place, landed, read_code, read_codes, code_fields, read_applet}
use Rattle.tlv.specs.Parts.{Due, contents, missing}
use Rattle.opcodes.specs.Judging.{passed}
use Rattle.applet.specs.Stages.{Found, head_of, entries_of, cells_of, method_of, due_at, one_more, places_from, judged, code_judged, codes_judged, both_pass, staged, from_head, from_entries, from_cells, from_places, from_codes}
use Rattle.applet.specs.Applets.{or_end, code_in, laid_out, nth}
use Rattle.model.proofs.Accepted.{err_ok}
use Rattle.applet.proofs.Loops.{take_min, length_quads}
use Rattle.applet.proofs.Expected.{here, read_due, expect_due, due_contents}

-- ---- the code of a method

-- an instruction more
abbrev with_code : List Instr → Read (Unit {0}) → Read (List Instr)
with_code cs (Ok u) = Ok cs
with_code cs (Err e) = Err e

-- the instructions that four bytes each stand for
abbrev decoded : ℕ → List Quad → List Instr
decoded n qs = map (λ q. or_end (decode n q)) qs

read_one : (n size i p : ℕ) (o : Option Instr) (qs : List Instr) (r : Read (Unit {0})) →
    (landed size i p o >>= (λ c. with_code qs r >>= (λ cs. Ok (c ∷ cs)))) ≡ with_code (or_end o ∷ qs) (passed (landed size i p o) r)
unfolding ◌>>=◌
read_one n size i p None qs r = refl
read_one n size i p (Some c) qs r = by (lands size i c) r
  where
    by : (b : Bool) (r : Read (Unit {0})) → (cond b (Ok c) (refuse (BadLanding p)) >>= (λ c. with_code qs r >>= (λ cs. Ok (c ∷ cs)))) ≡
        with_code (c ∷ qs) (passed (cond b (Ok c) (refuse (BadLanding p))) r)
    by true (Ok u) = refl
    by true (Err e) = refl
    by false r = refl

read_code_judged : (n size i p : ℕ) (qs : List Quad) → read_code n size i p qs ≡ with_code (decoded n qs) (judged n size i p qs)
read_code_judged n size i p [] = refl
read_code_judged n size i p (q ∷ qs) =
    ap (λ r. landed size i p (decode n q) >>= (λ c. r >>= (λ cs. Ok (c ∷ cs)))) (read_code_judged n size (i + 1) (p + 4) qs) ∙
    read_one n size i p (decode n q) (decoded n qs) (judged n size (i + 1) (p + 4) qs)

-- ---- the code of all methods

abbrev field_of : List ℕ → ℕ → Field
field_of f p = record { place = p; contents = contents_at f p }

abbrev with_codes : List (List Instr) → Read (Unit {0}) → Read (List (List Instr))
with_codes cs (Ok u) = Ok cs
with_codes cs (Err e) = Err e

codes_one : (c : List Instr) (cs : List (List Instr)) (r s : Read (Unit {0})) →
    (with_code c r >>= (λ d. with_codes cs s >>= (λ ds. Ok (d ∷ ds)))) ≡ with_codes (c ∷ cs) (both_pass r s)
unfolding ◌>>=◌
codes_one c cs (Ok u) (Ok v) = refl
codes_one c cs (Ok u) (Err e) = refl
codes_one c cs (Err e) s = refl

read_codes_judged : (n : ℕ) (f ps : List ℕ) → read_codes n (map (field_of f) ps) ≡ with_codes (map (code_in f n) ps) (codes_judged n f ps)
read_codes_judged n f [] = refl
read_codes_judged n f (p ∷ ps) =
    ap₂ (λ r s. r >>= (λ c. s >>= (λ cs. Ok (c ∷ cs))))
    (read_code_judged n (length (quads (contents_at f p))) 0 (p + 3) (quads (contents_at f p))) (read_codes_judged n f ps) ∙
    codes_one (code_in f n p) (map (code_in f n) ps) (code_judged n f p) (codes_judged n f ps)

-- ---- the fields of the methods

abbrev with_fields : List ℕ → Read (List ℕ) → Read (List Field)
with_fields f (Ok ps) = Ok (map (field_of f) ps)
with_fields f (Err e) = Err e

left_over : (p : ℕ) (r : List ℕ) → 0 < length r → ◌≡◌ {A = Read (List Field)} (over BadField p r >> Ok []) (Err (BadField p))
unfolding over ◌>>=◌
left_over p [] h = absurd (omega arith)
left_over p (b ∷ r) h = refl

over_ended : (f : List ℕ) (p : ℕ) (b : Bool) → leb (length f) p ≡ b → (over BadField p (drop p f) >> Ok []) ≡ with_fields f (cond b (Ok []) (refuse (BadField p)))
unfolding over ◌>>=◌
over_ended f p true t = rw (drop_all p f (leb-true _ _ t))
over_ended f p false t = let k = leb-false _ _ t in left_over p (drop p f) (omega (arith, length-drop p f))

fields_one : (f : List ℕ) (p : ℕ) (d : Due) → due_at 4 f p ≡ d → (rest : Read (List ℕ)) (k : Part → Read (List Field)) →
    ((c : List ℕ) → d ≡ contents c → k (here f p c) ≡ with_fields f rest) →
    (read_due f p d >>= (λ m. need (items 1 4096 m.contents) (BadSize p) >> (k m >>= (λ ms. Ok (record { place = p; contents = m.contents } ∷ ms))))) ≡
    with_fields f (one_more p (method_of p d) rest)
unfolding ◌>>=◌
fields_one f p (missing q) e rest k h = refl
fields_one f p (contents c) e rest k h = by (items 1 4096 c) refl (h c refl)
  where
    z : contents_at f p ≡ c
    z = (due_contents f 4 p refl c e).0

    go : (r : Read (List Field)) (rest : Read (List ℕ)) → r ≡ with_fields f rest →
        (r >>= (λ ms. Ok (record { place = p; contents = c } ∷ ms))) ≡ with_fields f (one_more p (Ok tt) rest)
    go r (Ok ps) g = rw g (ap {B = Read (List Field)} (λ (x : List ℕ). Ok (record { place = p; contents = x } ∷ map (field_of f) ps)) (sym z))
    go r (Err x) g = rw g

    by : (b : Bool) → items 1 4096 c ≡ b → k (here f p c) ≡ with_fields f rest →
        (need b (BadSize p) >> (k (here f p c) >>= (λ ms. Ok (record { place = p; contents = c } ∷ ms)))) ≡
        with_fields f (one_more p (cond b (Ok tt) (refuse (BadSize p))) rest)
    by true t g = go (k (here f p c)) rest g
    by false t g = refl

code_fields_from : (n : ℕ) (f : List ℕ) (p : ℕ) → code_fields n p (drop p f) ≡ with_fields f (places_from n f p)
code_fields_from zero f p = over_ended f p (leb (length f) p) refl
code_fields_from (suc n) f p =
    ap (λ r. r >>= (λ m. need (items 1 4096 m.contents) (BadSize p) >> (code_fields n (next m) m.rest >>= (λ ms. Ok (record { place = p; contents = m.contents } ∷ ms)))))
    (expect_due f 4 p refl) ∙
    fields_one f p (due_at 4 f p) refl (places_from n f (behind p (standing f p))) (λ m. code_fields n (next m) m.rest)
    (λ c e. ap (λ q. code_fields n q (drop q f)) (sym ((due_contents f 4 p refl c e).1 ∙ omega arith)) ∙ code_fields_from n f (behind p (standing f p)))

-- as many places as methods
places_long : (n : ℕ) (f : List ℕ) (p : ℕ) (ps : List ℕ) → places_from n f p ≡ Ok ps → length ps ≡ n
places_long zero f p ps e = by (leb (length f) p) e
  where
    by : (b : Bool) → cond b (Ok []) (refuse (BadField p)) ≡ Ok ps → length ps ≡ 0
    by true h = let z : [] ≡ ps = cc in sym (ap length z)
    by false h = absurd (err_ok h)
places_long (suc n) f p ps e = by (method_of p (due_at 4 f p)) (places_from n f (behind p (standing f p))) (places_long n f (behind p (standing f p))) e
  where
    by : (r : Read (Unit {0})) (s : Read (List ℕ)) → ((qs : List ℕ) → s ≡ Ok qs → length qs ≡ n) → one_more p r s ≡ Ok ps → length ps ≡ suc n
    by (Ok u) (Ok qs) k h = let z : p ∷ qs ≡ ps = cc in sym (ap length z) ∙ ap suc (k qs refl)
    by (Ok u) (Err x) k h = absurd (err_ok h)
    by (Err x) s k h = absurd (err_ok h)

-- ---- the stages

-- the applet of a file in which that was found
abbrev pub built : List ℕ → Read Found → Read machine.Applet
built f (Ok l) = Ok (laid_out f l)
built f (Err e) = Err e

-- the contents of a field, taken by their own length
own_part : (k : ℕ) (xs c : List ℕ) → take k xs ≡ c → take (length c) xs ≡ c
own_part k xs c e = let l : length c ≡ min k (length xs) = sym (ap length e) ∙ length-take k xs in rw l (take_min k xs ∙ e)

module _ (n : ℕ) (es : List ℕ) where
  abbrev with_starts : List ℕ → List (List Instr) → machine.Applet
  with_starts ss cs = record { entries = es; starts = map signed_of (quads ss); methods = cs }

  -- the cells, and what follows
  abbrev after_cells : Part → Read machine.Applet
  after_cells s =
      need (items 0 32 s.contents) (BadSize s.place) >>
      (code_fields n (next s) s.rest >>= (λ ms. read_codes n ms >>= (λ cs. Ok (with_starts s.contents cs))))

module _ (f : List ℕ) (n t : ℕ) (es : List ℕ) (e₁ : take t (drop 8 f) ≡ es) where
  abbrev applet : List ℕ → List (List Instr) → machine.Applet
  applet = with_starts n es

  by_codes : (s : ℕ) (ss ps : List ℕ) → take (4 * s) (drop (11 + t) f) ≡ ss → length ps ≡ n →
      (read_codes n (map (field_of f) ps) >>= (λ cs. Ok (applet ss cs))) ≡ built f (from_codes t s ps (codes_judged n f ps))
  unfolding ◌>>=◌
  by_codes s ss ps e₂ l =
      ap (λ r. r >>= (λ cs. Ok (applet ss cs))) (read_codes_judged n f ps) ∙ by (codes_judged n f ps)
    where
      by : (r : Read (Unit {0})) → (with_codes (map (code_in f n) ps) r >>= (λ cs. Ok (applet ss cs))) ≡ built f (from_codes t s ps r)
      by (Ok u) = ap Ok (λ i. record { entries = sym e₁ i; starts = map signed_of (quads (sym e₂ i)); methods = map (code_in f (sym l i)) ps })
      by (Err x) = refl

  by_places : (s p : ℕ) (ss : List ℕ) → take (4 * s) (drop (11 + t) f) ≡ ss →
      (code_fields n p (drop p f) >>= (λ ms. read_codes n ms >>= (λ cs. Ok (applet ss cs)))) ≡ built f (from_places f n t s (places_from n f p))
  unfolding ◌>>=◌
  by_places s p ss e₂ =
      ap (λ r. r >>= (λ ms. read_codes n ms >>= (λ cs. Ok (applet ss cs)))) (code_fields_from n f p) ∙ by (places_from n f p) refl
    where
      by : (r : Read (List ℕ)) → places_from n f p ≡ r →
          (with_fields f r >>= (λ ms. read_codes n ms >>= (λ cs. Ok (applet ss cs)))) ≡ built f (from_places f n t s r)
      by (Ok ps) q = by_codes s ss ps e₂ (places_long n f p ps q)
      by (Err x) q = refl

  by_cells : (read_due f (8 + t) (due_at 3 f (8 + t)) >>= after_cells n es) ≡ built f (from_cells f n t (cells_of (8 + t) (due_at 3 f (8 + t))))
  unfolding ◌>>=◌
  by_cells = by (due_at 3 f (8 + t)) refl
    where
      fit : (c : List ℕ) → due_at 3 f (8 + t) ≡ contents c → (b : Bool) → items 0 32 c ≡ b →
          (need b (BadSize (8 + t)) >> (code_fields n (8 + t + (3 + length c)) (drop (8 + t + (3 + length c)) f) >>= (λ ms. read_codes n ms >>= (λ cs. Ok (applet c cs))))) ≡
          built f (from_cells f n t (cond b (Ok (length c / 4)) (refuse (BadSize (8 + t)))))
      fit c e false q = refl
      fit c e true q =
          let w = and_parts (eqb (length c % 4) 0) (within 0 32 (length c / 4)) q in
          let z = eqb-true _ _ w.0 in
          let m : 4 * (length c / 4) ≡ length c = omega arith in
          let k : 8 + t + (3 + length c) ≡ 11 + t + 4 * (length c / 4) = omega arith in
          let g : 8 + t + 3 ≡ 11 + t = omega arith in
          let v : take (4 * (length c / 4)) (drop (11 + t) f) ≡ c = rw (m, ← g) (own_part _ _ c (due_contents f 3 (8 + t) refl c e).0) in
          ap (λ p. code_fields n p (drop p f) >>= (λ ms. read_codes n ms >>= (λ cs. Ok (applet c cs)))) k ∙
          by_places (length c / 4) (11 + t + 4 * (length c / 4)) c v

      by : (d : Due) → due_at 3 f (8 + t) ≡ d → (read_due f (8 + t) d >>= after_cells n es) ≡ built f (from_cells f n t (cells_of (8 + t) d))
      by (missing q) e = refl
      by (contents c) e = fit c e (items 0 32 c) refl

module _ (f : List ℕ) where
  abbrev after_entries : ℕ → Part → Read machine.Applet
  after_entries n t =
      need (within 1 8 (length t.contents) && every (λ e. ltb e n) t.contents) (BadSize t.place) >>
      (expect BadField 3 (next t) t.rest >>= after_cells n t.contents)

  by_entries : (n : ℕ) → (read_due f 5 (due_at 2 f 5) >>= after_entries n) ≡ built f (from_entries f n (entries_of n 5 (due_at 2 f 5)))
  unfolding ◌>>=◌
  by_entries n = by (due_at 2 f 5) refl
    where
      fit : (c : List ℕ) → due_at 2 f 5 ≡ contents c → (b : Bool) →
          (need b (BadSize 5) >> (expect BadField 3 (5 + (3 + length c)) (drop (5 + (3 + length c)) f) >>= after_cells n c)) ≡
          built f (from_entries f n (cond b (Ok (length c)) (refuse (BadSize 5))))
      fit c e false = refl
      fit c e true =
          let k : 5 + (3 + length c) ≡ 8 + length c = omega arith in
          let v : take (length c) (drop 8 f) ≡ c = own_part _ _ c (due_contents f 2 5 refl c e).0 in
          ap (λ p. expect BadField 3 p (drop p f) >>= after_cells n c) k ∙
          ap (λ r. r >>= after_cells n c) (expect_due f 3 (8 + length c) refl) ∙ by_cells f n (length c) c v

      by : (d : Due) → due_at 2 f 5 ≡ d → (read_due f 5 d >>= after_entries n) ≡ built f (from_entries f n (entries_of n 5 d))
      by (missing q) e = refl
      by (contents c) e = fit c e (within 1 8 (length c) && every (λ e. ltb e n) c)

  abbrev after_head : Part → Read machine.Applet
  after_head h =
      need (eqb (length h.contents) 2 && eqb (get_or h.contents 0 0) 1 && within 1 32 (get_or h.contents 1 0)) (BadSize 0) >>
      (expect BadField 2 (next h) h.rest >>= after_entries (get_or h.contents 1 0))

  by_head : (read_due f 0 (due_at 1 f 0) >>= after_head) ≡ built f (from_head f (head_of 0 (due_at 1 f 0)))
  unfolding ◌>>=◌
  by_head = by (due_at 1 f 0)
    where
      fit : (c : List ℕ) (b : Bool) → (eqb (length c) 2 && eqb (get_or c 0 0) 1 && within 1 32 (get_or c 1 0)) ≡ b →
          (need b (BadSize 0) >> (expect BadField 2 (0 + (3 + length c)) (drop (0 + (3 + length c)) f) >>= after_entries (get_or c 1 0))) ≡
          built f (from_head f (cond b (Ok (get_or c 1 0)) (refuse (BadSize 0))))
      fit c false q = refl
      fit c true q =
          let w = and_parts (eqb (length c) 2 && eqb (get_or c 0 0) 1) (within 1 32 (get_or c 1 0)) q in
          let z = eqb-true _ _ (and_parts (eqb (length c) 2) (eqb (get_or c 0 0) 1) w.0).0 in
          let k : 0 + (3 + length c) ≡ 5 = omega arith in
          ap (λ p. expect BadField 2 p (drop p f) >>= after_entries (get_or c 1 0)) k ∙
          ap (λ r. r >>= after_entries (get_or c 1 0)) (expect_due f 2 5 refl) ∙ by_entries (get_or c 1 0)

      by : (d : Due) → (read_due f 0 d >>= after_head) ≡ built f (from_head f (head_of 0 d))
      by (missing q) = refl
      by (contents c) = fit c (eqb (length c) 2 && eqb (get_or c 0 0) 1 && within 1 32 (get_or c 1 0)) refl

  -- the reading of a file, place by place
  pub staged_is : built f (staged f) ≡ read_applet f
  unfolding ◌>>=◌
  staged_is = by (leb (length f) 65535)
    where
      by : (b : Bool) → built f (cond b (from_head f (head_of 0 (due_at 1 f 0))) (refuse (BadField 0))) ≡ (need b (BadField 0) >> (expect BadField 1 0 f >>= after_head))
      by true = sym (ap (λ r. r >>= after_head) (expect_due f 1 0 refl) ∙ by_head)
      by false = refl

-- ---- where the methods stand

method_ok : (f : List ℕ) (p : ℕ) (u : Unit {0}) → method_of p (due_at 4 f p) ≡ Ok u →
    (length (contents_at f p) % 4 ≡ 0) × (behind p (standing f p) ≡ p + 3 + length (contents_at f p))
method_ok f p u e = by (due_at 4 f p) refl e
  where
    fit : (c : List ℕ) → due_at 4 f p ≡ contents c → (b : Bool) → items 1 4096 c ≡ b → cond b (Ok tt) (refuse (BadSize p)) ≡ Ok u →
        (length (contents_at f p) % 4 ≡ 0) × (behind p (standing f p) ≡ p + 3 + length (contents_at f p))
    fit c q false t h = absurd (err_ok h)
    fit c q true t h =
        let d = due_contents f 4 p refl c q in
        let w = eqb-true _ _ (and_parts (eqb (length c % 4) 0) (within 1 4096 (length c / 4)) t).0 in
        let l : length (contents_at f p) ≡ length c = ap length d.0 in
        (rw l w, d.1 ∙ ap (λ k. p + 3 + k) (sym l))

    by : (d : Due) → due_at 4 f p ≡ d → method_of p d ≡ Ok u → (length (contents_at f p) % 4 ≡ 0) × (behind p (standing f p) ≡ p + 3 + length (contents_at f p))
    by (missing q) g h = absurd (err_ok h)
    by (contents c) g h = fit c g (items 1 4096 c) refl h

-- the places of the methods are those that their sizes give
pub places_stand : (n : ℕ) (f : List ℕ) (p k : ℕ) (ps : List ℕ) → places_from n f p ≡ Ok ps → (m : ℕ) → m < length ps →
    nth ps m ≡ Some (p + code_place (map (code_in f k) ps) m)
places_stand zero f p k ps e m h = absurd (omega (arith, places_long zero f p ps e))
places_stand (suc n) f p k ps e m h =
    by (method_of p (due_at 4 f p)) (places_from n f (behind p (standing f p))) refl (places_stand n f (behind p (standing f p)) k) e m h
  where
    at : (qs : List ℕ) → (behind p (standing f p) ≡ p + 3 + length (contents_at f p)) → (length (contents_at f p) % 4 ≡ 0) →
        ((m : ℕ) → m < length qs → nth qs m ≡ Some (behind p (standing f p) + code_place (map (code_in f k) qs) m)) →
        (m : ℕ) → m < suc (length qs) → nth (p ∷ qs) m ≡ Some (p + code_place (map (code_in f k) (p ∷ qs)) m)
    at qs b w ih zero l = ap Some (omega arith)
    at qs b w ih (suc m) l =
        ih m (omega arith) ∙ ap Some
        (let c = code_place_more (code_in f k p) (map (code_in f k) qs) m in
        let s : length (code_in f k p) ≡ length (contents_at f p) / 4 = length-map (quads (contents_at f p)) (λ q. or_end (decode k q)) ∙ length_quads (contents_at f p) in
        omega arith)

    by : (r : Read (Unit {0})) (s : Read (List ℕ)) → method_of p (due_at 4 f p) ≡ r →
        ((qs : List ℕ) → s ≡ Ok qs → (m : ℕ) → m < length qs → nth qs m ≡ Some (behind p (standing f p) + code_place (map (code_in f k) qs) m)) →
        one_more p r s ≡ Ok ps → (m : ℕ) → m < length ps → nth ps m ≡ Some (p + code_place (map (code_in f k) ps) m)
    by (Ok u) (Ok qs) g ih h m l =
        let z : p ∷ qs ≡ ps = cc in
        let o = method_ok f p u g in
        let q : m < suc (length qs) = subst (λ (x : List ℕ). m < length x) (sym z) l in
        subst (λ (x : List ℕ). nth x m ≡ Some (p + code_place (map (code_in f k) x) m)) z (at qs o.1 o.0 (ih qs refl) m q)
    by (Ok u) (Err x) g ih h m l = absurd (err_ok h)
    by (Err x) s g ih h m l = absurd (err_ok h)

-- in what was found each method stands where the model has it
abbrev StandingIn : List ℕ → Found → Type 0
StandingIn f l = (m : ℕ) → m < length l.places → nth l.places m ≡ Some (method_place (laid_out f l) m)

module _ (f : List ℕ) (l : Found) where
  inv_codes : (n t s : ℕ) (ps : List ℕ) (r : Read (Unit {0})) → length (take t (drop 8 f)) ≡ t → length (quads (take (4 * s) (drop (11 + t) f))) ≡ s →
      places_from n f (11 + t + 4 * s) ≡ Ok ps → from_codes t s ps r ≡ Ok l → StandingIn f l
  inv_codes n t s ps (Ok u) a b g e =
      let z : record { threads = t; cells = s; places = ps } ≡ l = cc in
      subst (StandingIn f) z
      (λ m h. places_stand n f (11 + t + 4 * s) (length ps) ps g m h ∙ ap Some
      (let d = length-map (quads (take (4 * s) (drop (11 + t) f))) signed_of in omega arith))
  inv_codes n t s ps (Err x) a b g e = absurd (err_ok e)

  inv_places : (n t s : ℕ) (r : Read (List ℕ)) → length (take t (drop 8 f)) ≡ t → length (quads (take (4 * s) (drop (11 + t) f))) ≡ s →
      places_from n f (11 + t + 4 * s) ≡ r → from_places f n t s r ≡ Ok l → StandingIn f l
  inv_places n t s (Ok ps) a b g e = inv_codes n t s ps (codes_judged n f ps) a b g e
  inv_places n t s (Err x) a b g e = absurd (err_ok e)

  inv_cells : (n t : ℕ) (d : Due) → due_at 3 f (8 + t) ≡ d → length (take t (drop 8 f)) ≡ t → from_cells f n t (cells_of (8 + t) d) ≡ Ok l → StandingIn f l
  inv_cells n t (missing q) g a e = absurd (err_ok e)
  inv_cells n t (contents c) g a e = by (items 0 32 c) refl e
    where
      by : (b : Bool) → items 0 32 c ≡ b → from_cells f n t (cond b (Ok (length c / 4)) (refuse (BadSize (8 + t)))) ≡ Ok l → StandingIn f l
      by false q h = absurd (err_ok h)
      by true q h =
          let w = eqb-true _ _ (and_parts (eqb (length c % 4) 0) (within 0 32 (length c / 4)) q).0 in
          let m : 4 * (length c / 4) ≡ length c = omega arith in
          let k : 8 + t + 3 ≡ 11 + t = omega arith in
          let v : take (4 * (length c / 4)) (drop (11 + t) f) ≡ c = rw (m, ← k) (own_part _ _ c (due_contents f 3 (8 + t) refl c g).0) in
          inv_places n t (length c / 4) _ a (rw v (length_quads c)) refl h

  inv_entries : (n : ℕ) (d : Due) → due_at 2 f 5 ≡ d → from_entries f n (entries_of n 5 d) ≡ Ok l → StandingIn f l
  inv_entries n (missing q) g e = absurd (err_ok e)
  inv_entries n (contents c) g e = by (within 1 8 (length c) && every (λ e. ltb e n) c) e
    where
      by : (b : Bool) → from_entries f n (cond b (Ok (length c)) (refuse (BadSize 5))) ≡ Ok l → StandingIn f l
      by false h = absurd (err_ok h)
      by true h =
          let v : take (length c) (drop 8 f) ≡ c = own_part _ _ c (due_contents f 2 5 refl c g).0 in
          inv_cells n (length c) (due_at 3 f (8 + length c)) refl (ap length v) h

  inv_head : (r : Read ℕ) → from_head f r ≡ Ok l → StandingIn f l
  inv_head (Ok n) e = inv_entries n (due_at 2 f 5) refl e
  inv_head (Err x) e = absurd (err_ok e)

  pub staged_stands : staged f ≡ Ok l → (m : ℕ) → m < length l.places → nth l.places m ≡ Some (method_place (laid_out f l) m)
  staged_stands e = by (leb (length f) 65535) e
    where
      by : (b : Bool) → cond b (from_head f (head_of 0 (due_at 1 f 0))) (refuse (BadField 0)) ≡ Ok l → StandingIn f l
      by true h = inv_head (head_of 0 (due_at 1 f 0)) h
      by false h = absurd (err_ok h)
