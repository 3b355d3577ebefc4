-- What is written of an applet within the limits is read back.
use Rattle.std.proofs.Common.{◌≡◌, ℕ, ◌+◌, ◌<◌, ◌≤◌, Bool, true, ltb, List, [], ◌∷◌, ◌++◌, map, length, ℤ, Ok, refl, ap₂, arith, length-append, w32, SFits}
use lib.ListN.{length-map}
use Rattle.std.specs.List.{AllByRecursion}
use Rattle.std.proofs.lemmas.List.{take_at, drop_at}
use Rattle.std.proofs.lemmas.Bool.{lt-ltb, le-leb, eq-eqb, and_from}
use Rattle.model.specs.declared.Instr.{Instr}
use Rattle.model.specs.Machine.{Applet}
use Rattle.model.specs.Words.{Quad, quads, flat, signed_of, quad_of, encode}
use Rattle.model.specs.declared.Refusal.{Refusal}
use Rattle.model.specs.Fields.{Field, ◌>>=◌, within, Within, every, items, expect, over, field}
use Rattle.model.specs.Reading.{read_code, read_codes, code_fields, read_applet, write_code, write_codes, write_applet, Sound, Valid}
use Rattle.model.proofs.Words.{word_halves, quads_flat, length_flat, signed_quad, encoded}
use Rattle.model.specs.declared.Refusal.TheVariants.{BadField}

pub expect_field : (b : ℕ → Refusal) (t p : ℕ) (c r : List ℕ) → length c < 65536 → expect b t p (field t c ++ r) ≡ Ok (record { place = p; contents = c; rest = r })
unfolding expect field
expect_field b t p c r h = rw (
  word_halves (length c),
  take_at c r (length c) refl,
  drop_at c r (length c) refl,
  eq-eqb t t refl,
  le-leb (length c)
      (length (c ++ r)) (simp length-append (omega arith)),
)

pub within_from : (a b n : ℕ) → Within a b n → within a b n ≡ true
within_from a b n h = and_from _ _ (le-leb a n h.0) (le-leb n b h.1)

pub every_from : {X : Type 0} (f : X → Bool) (P : X → Type 0) → ((x : X) → P x → f x ≡ true) → (xs : List X) → AllByRecursion P xs → every f xs ≡ true
every_from f P k [] h = refl
every_from f P k (x ∷ xs) h = and_from _ _ (k x h.0) (every_from f P k xs h.1)

pub items_from : (a b : ℕ) (qs : List Quad) → Within a b (length qs) → items a b (flat qs) ≡ true
items_from a b qs h = rw (length_flat qs) (and_from _ _ (eq-eqb _ _ (omega arith)) (within_from a b _ (omega arith)))

pub read_code_write : (n size i p : ℕ) (cs : List Instr) → Sound n size i cs → read_code n size i p (map encode cs) ≡ Ok cs
unfolding ◌>>=◌
read_code_write n size i p [] h = refl
read_code_write n size i p (c ∷ cs) h = rw (encoded n c h.0.0, h.0.1, read_code_write n size (i + 1) (p + 4) cs h.1)

-- the fields that stand at place p
abbrev parts : ℕ → List (List Instr) → List Field
parts p [] = []
parts p (c ∷ cs) = record { place = p; contents = write_code c } ∷ parts (p + (3 + length (write_code c))) cs

code_fields_write : (p : ℕ) (cs : List (List Instr)) → AllByRecursion (λ c. Within 1 4096 (length c)) cs → code_fields (length cs) p (write_codes cs) ≡ Ok (parts p cs)
unfolding ◌>>=◌ over
code_fields_write p [] h = refl
code_fields_write p (c ∷ cs) h =
    let e = length-map c encode in
    rw (
      expect_field BadField 4 p (write_code c) (write_codes cs) (rw (length_flat (map encode c)) (omega arith)),
      items_from 1 4096 (map encode c)
          (omega arith),
      code_fields_write (p + (3 + length (write_code c))) cs h.1,
    )

read_codes_write : (n p : ℕ) (cs : List (List Instr)) → AllByRecursion (λ c. Sound n (length c) 0 c) cs → read_codes n (parts p cs) ≡ Ok cs
unfolding ◌>>=◌
read_codes_write n p [] h = refl
read_codes_write n p (c ∷ cs) h = rw (
  quads_flat (map encode c),
  length-map c encode,
  read_code_write n (length c) 0 (p + 3) c h.0,
  read_codes_write n
      (p + (3 + length (write_code c))) cs h.1,
)

pub starts_back : (zs : List ℤ) → AllByRecursion (SFits w32) zs → map signed_of (quads (flat (map quad_of zs))) ≡ zs
starts_back [] h = refl
starts_back (z ∷ zs) h = ap₂ {C = List ℤ} (λ y ys. y ∷ ys) (signed_quad z h.0) (starts_back zs h.1)

pub round : (a : Applet) → Valid a → length (write_applet a) ≤ 65535 → read_applet (write_applet a) ≡ Ok a
unfolding ◌>>=◌
round a g short =
    let n = length a.methods in
    let c = flat (map quad_of a.starts) in
    let e = length-map a.starts quad_of in
    let p = 5 + (3 + length a.entries) in
    rw (
      le-leb _ _ short,
      expect_field BadField 1 0 (1 ∷ n ∷ []) (field 2 a.entries ++ (field 3 c ++ write_codes a.methods)) (omega arith),
      within_from 1 32 n g.methods,
      expect_field BadField 2 5 a.entries (field 3 c ++ write_codes a.methods) (omega arith),
      within_from 1 8 (length a.entries) g.threads,
      every_from (λ e. ltb e n) (λ e. e < n) (λ e h. lt-ltb e n h) a.entries g.entered,
      expect_field BadField 3 p c (write_codes a.methods) (rw (length_flat (map quad_of a.starts)) (omega arith)),
      items_from 0 32 (map quad_of a.starts) (omega arith),
      code_fields_write (p + (3 + length c)) a.methods g.sizes,
      read_codes_write n (p + (3 + length c)) a.methods g.sound,
      starts_back a.starts g.signed,
    )
