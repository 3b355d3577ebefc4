-- Bytes written one after the other.
use Rattle.std.proofs.Common.{◌≡◌, ℕ, ◌+◌, ◌*◌, ◌/◌, ◌%◌, ◌<◌, ◌≤◌, List, [], ◌∷◌, ◌++◌, map, length, get_or, take, drop, ℤ, sym, refl, ap, ◌∙◌, ap₂, arith, length-append, length-take, length-drop, w32, SFits, of_z}
use lib.ListN.{length-map}
use Rattle.std.proofs.lemmas.List.{map-append, take_more, take_at}
use Rattle.std.proofs.lemmas.Bool.{le-leb}
use Rattle.std.proofs.lemmas.Int.{ints}
use Rattle.model.specs.declared.Instr.{Instr}
use Rattle.model.specs.Policy.{Automaton}
use Rattle.model.specs.Fields.{field, ◌>>=◌}
use Rattle.model.specs.Words.{flat, high, low, quad_of, encode}
use Rattle.model.specs.Reading.{write_code}
use Rattle.model.specs.Calls.{starts_row}
use Rattle.model.proofs.Places.{flat_append}
use Rattle.model.proofs.Words.{length_flat}
use Rattle.policy.specs.Calls.{put_at}
use Rattle.policy.proofs.Writes.{put_none, put_put}
use Rattle.weaver.specs.declared.pen.Pen.{Pen}
use Rattle.weaver.specs.Pens.{Wrote}

pub put_length : (xs u : List ℕ) (at : ℕ) → at + length u ≤ length xs → length (put_at xs at u) ≡ length xs
put_length xs u at h = simp (length-append, length-take, length-drop) (omega arith)

pub wrote_none : (p : Pen) → Wrote p [] p
wrote_none p = record { same_area = refl; area = sym (put_none p.area.now p.at); at = omega arith; long = refl }

pub wrote_more : {p q r : Pen} {u v : List ℕ} → Wrote p u q → Wrote q v r → q.at ≤ length p.area.now → Wrote p (u ++ v) r
wrote_more {p} {q} {r} {u} {v} w x room =
    let z = w.at in
    record {
      same_area = x.same_area ∙ w.same_area;
      area = x.area ∙ ap₂ (λ a n. put_at a n v) w.area z ∙ put_put p.area.now u v p.at (omega arith);
      at = simp length-append (omega (arith, x.at));
      long = x.long ∙ w.long;
    }

-- ---- instructions

write_append : (c d : List Instr) → write_code (c ++ d) ≡ write_code c ++ write_code d
write_append c d = ap flat (map-append encode c d) ∙ flat_append (map encode c) (map encode d)

pub write_length : (c : List Instr) → length (write_code c) ≡ 4 * length c
write_length c = length_flat (map encode c) ∙ ap (λ (n : ℕ). 4 * n) (length-map c encode)

pub code_more : {p q r : Pen} (c d : List Instr) → Wrote p (write_code c) q → Wrote q (write_code d) r → q.at ≤ length p.area.now → Wrote p (write_code (c ++ d)) r
code_more c d w x room = rw (write_append c d) (wrote_more w x room)

-- ---- fields

-- a field is its head, then its contents
pub field_parts : (tag n : ℕ) (c : List ℕ) → n ≡ length c → (tag ∷ high n ∷ low n ∷ []) ++ c ≡ field tag c
unfolding field
field_parts tag n c e = rw e

pub field_more : {p q r : Pen} (tag n : ℕ) (c : List ℕ) → Wrote p (tag ∷ high n ∷ low n ∷ []) q → Wrote q c r → n ≡ length c → q.at ≤ length p.area.now → Wrote p (field tag c) r
field_more tag n c w x e room = rw (field_parts tag n c e) at (wrote_more w x room)

-- ---- signed numbers

abbrev cell_bytes : List ℤ → List ℕ
cell_bytes cs = flat (map quad_of cs)

pub cells_length : (cs : List ℤ) → length (cell_bytes cs) ≡ 4 * length cs
cells_length cs = length_flat (map quad_of cs) ∙ ap (λ (n : ℕ). 4 * n) (length-map cs quad_of)

pub cells_more : {p q r : Pen} (cs : List ℤ) (i : ℕ) (d : ℤ) → i < length cs → Wrote p (cell_bytes (take i cs)) q → Wrote q (cell_bytes (get_or cs i d ∷ [])) r → q.at ≤ length p.area.now →
    Wrote p (cell_bytes (take (i + 1) cs)) r
cells_more {p} {r = r} cs i d h w x room =
    let e : cell_bytes (take i cs) ++ cell_bytes (get_or cs i d ∷ []) ≡ cell_bytes (take (i + 1) cs) =
    sym (flat_append (map quad_of (take i cs)) (quad_of (get_or cs i d) ∷ [])) ∙ ap flat (sym (map-append quad_of (take i cs) (get_or cs i d ∷ [])) ∙ ap (map quad_of) (sym (take_more cs i d h))) in
    rw e at (wrote_more w x room)

small : (z : ℤ) → SFits w32 z → of_z w32 z < 4294967296
small z f = omega (arith, ints)

pub cell_put : (z y : ℤ) (bytes : List ℕ) → SFits w32 z → y ≡ z →
    bytes ≡ (of_z w32 y / 16777216 % 256) ∷ (of_z w32 y / 65536 % 256) ∷ (of_z w32 y / 256 % 256) ∷ (of_z w32 y % 256) ∷ [] → bytes ≡ flat (quad_of z ∷ [])
cell_put z y bytes f e h =
    let s = small z f in
    let n : of_z w32 z / 16777216 % 256 ≡ of_z w32 z / 16777216 = omega arith in
    h ∙ ap {B = List ℕ} (λ y. (of_z w32 y / 16777216 % 256) ∷ (of_z w32 y / 65536 % 256) ∷ (of_z w32 y / 256 % 256) ∷ (of_z w32 y % 256) ∷ []) e ∙
    ap {B = List ℕ} (λ a. a ∷ (of_z w32 z / 65536 % 256) ∷ (of_z w32 z / 256 % 256) ∷ (of_z w32 z % 256) ∷ []) n

-- ---- the start values

pub starts_read : (A : Automaton) (row new : List ℤ) → length A.starts ≡ A.width → A.width ≤ 32 → A.width ≤ length row → new ≡ starts_row A row →
    take A.width new ≡ A.starts
unfolding ◌>>=◌
starts_read A row new l n room e =
    let z : starts_row A row ≡ A.starts ++ drop A.width row = rw (le-leb A.width 32 n, le-leb A.width (length row) room) in
    ap (take A.width) (e ∙ z) ∙ take_at A.starts (drop A.width row) A.width l
