-- Bytes written one after the other.
use Rattle.std.proofs.Common.{◌≡◌, ℕ, ◌+◌, ◌-◌, ◌*◌, ◌<◌, ◌≤◌, List, [], ◌∷◌, ◌++◌, map, length, get_or, take, drop, sym, refl, ap, ◌∙◌, subst, append_assoc, add-zero, add_assoc, zero-add, arith, length-append, take-append-drop, length-take, drop-drop}
use lib.ListN.{length-map}
use lib.Seq.{drop-append-add}
use borrow.Rule.Slice.PartMut.{put_mid}
use Rattle.std.proofs.lemmas.List.{take_at, take_more, map-append}
use Rattle.model.specs.declared.Instr.{Instr}
use Rattle.model.specs.declared.Test.{Test}
use Rattle.model.specs.Words.{Quad, flat, encode}
use Rattle.model.specs.Calls.{block_bytes}
use Rattle.model.specs.Areas.{over_area}
use Rattle.model.proofs.Words.{length_flat}
use Rattle.policy.specs.Calls.{put_at}

pub put_none : (xs : List ℕ) (at : ℕ) → put_at xs at [] ≡ xs
put_none xs at = rw add-zero (take-append-drop at xs)

-- at the front
pub put_front : (xs ys : List ℕ) → put_at xs 0 ys ≡ over_area ys xs
put_front xs ys = ap (λ n. ys ++ drop n xs) (zero-add (length ys))

-- a copy into the part of a slice
pub part_put : (xs ys zs : List ℕ) (a n : ℕ) → ys ≡ zs → length zs ≡ n → put_mid a ((a + n) - a) xs ys ≡ put_at xs a zs
part_put xs ys zs a n e l =
    let k : (a + n) - a ≡ n = omega arith in
    rw (k, e, drop-drop n a xs, l)

drop_past : (p s : List ℕ) (n k : ℕ) → length p ≡ n → drop (n + k) (p ++ s) ≡ drop k s
drop_past p s n k e = rw (sym e) (drop-append-add p s k)

pub put_put : (xs u v : List ℕ) (a : ℕ) → a + length u ≤ length xs → put_at (put_at xs a u) (a + length u) v ≡ put_at xs a (u ++ v)
put_put xs u v a h =
    let p = take a xs in
    let s = drop (a + length u) xs in
    let lp : length p ≡ a = simp length-take (omega arith) in
    let lpu : length (p ++ u) ≡ a + length u = simp length-append (omega arith) in
    let t : take (a + length u) (p ++ (u ++ s)) ≡ p ++ u = rw (← append_assoc p u s) (take_at (p ++ u) s (a + length u) lpu) in
    let d : drop ((a + length u) + length v) (p ++ (u ++ s)) ≡ drop (a + length (u ++ v)) xs =
    ap (drop ((a + length u) + length v)) (sym (append_assoc p u s)) ∙ drop_past (p ++ u) s (a + length u) (length v) lpu
    ∙ drop-drop (length v) (a + length u) xs ∙ ap (λ n. drop n xs) (add_assoc a (length u) (length v) ∙ ap (λ n. a + n) (sym (length-append u v))) in
    rw (t, d, append_assoc p u (v ++ drop (a + length (u ++ v)) xs), append_assoc u v (drop (a + length (u ++ v)) xs))

-- the same, where the first stands at the front
pub put_behind : (xs u v : List ℕ) (n : ℕ) → length u ≡ n → n ≤ length xs → put_at (put_at xs 0 u) n v ≡ put_at xs 0 (u ++ v)
put_behind xs u v n e h = subst (λ n. put_at (put_at xs 0 u) n v ≡ put_at xs 0 (u ++ v)) (zero-add (length u) ∙ e) (put_put xs u v 0 (omega arith))

flat_append : (a b : List Quad) → flat (a ++ b) ≡ flat a ++ flat b
flat_append [] b = refl
flat_append (q ∷ a) b = ap {B = List ℕ} (λ r. q.a ∷ q.b ∷ q.c ∷ q.d ∷ r) (flat_append a b)

pub bytes_append : (a b : List Test) → block_bytes (a ++ b) ≡ block_bytes a ++ block_bytes b
bytes_append a b =
    ap flat (ap (map encode) (map-append Instr.Test a b) ∙ map-append encode (map Instr.Test a) (map Instr.Test b)) ∙
    flat_append (map encode (map Instr.Test a)) (map encode (map Instr.Test b))

pub bytes_length : (b : List Test) → length (block_bytes b) ≡ 4 * length b
bytes_length b = length_flat (map encode (map Instr.Test b)) ∙ ap (λ (n : ℕ). 4 * n) (length-map (map Instr.Test b) encode ∙ length-map b Instr.Test)

-- one instruction more
pub put_more : (xs : List ℕ) (a : ℕ) (b : List Test) (i : ℕ) (d : Test) → i < length b → a + 4 * length b ≤ length xs →
    put_at (put_at xs a (block_bytes (take i b))) (a + 4 * i) (block_bytes (get_or b i d ∷ [])) ≡ put_at xs a (block_bytes (take (i + 1) b))
put_more xs a b i d h room =
    let x = get_or b i d in
    let n : length (block_bytes (take i b)) ≡ 4 * i = bytes_length (take i b) ∙ ap (λ (k : ℕ). 4 * k) (simp length-take (omega arith)) in
    let e : block_bytes (take (i + 1) b) ≡ block_bytes (take i b) ++ block_bytes (x ∷ []) = ap block_bytes (take_more b i d h) ∙ bytes_append (take i b) (x ∷ []) in
    rw (e, ← n) (put_put xs (block_bytes (take i b)) (block_bytes (x ∷ [])) a (omega arith))
