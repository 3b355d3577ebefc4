-- Start values in four bytes each.
use Rattle.std.proofs.Common.{◌≡◌, ℕ, ◌+◌, ◌*◌, ◌<◌, ◌≤◌, List, [], ◌∷◌, ◌++◌, map, length, get_or, drop, set, ℤ, pos, sym, refl, ap, ◌∙◌, append_assoc, append-nil, arith, length-append}
use Rattle.std.proofs.lemmas.List.{drop_more, set_at}
use Rattle.model.specs.Words.{quads, quad_at, signed_of}

quad_off : (b z : List ℕ) → length b ≡ 4 → quads (b ++ z) ≡ quad_at b 0 ∷ quads z
quad_off [] z h = absurd (omega arith)
quad_off (a ∷ []) z h = absurd (omega arith)
quad_off (a ∷ b ∷ []) z h = absurd (omega arith)
quad_off (a ∷ b ∷ c ∷ []) z h = absurd (omega arith)
quad_off (a ∷ b ∷ c ∷ d ∷ []) z h = refl
quad_off (a ∷ b ∷ c ∷ d ∷ e ∷ r) z h = absurd (omega arith)

no_quad : (z : List ℕ) → length z < 4 → quads z ≡ []
no_quad [] h = refl
no_quad (a ∷ []) h = refl
no_quad (a ∷ b ∷ []) h = refl
no_quad (a ∷ b ∷ c ∷ []) h = refl
no_quad (a ∷ b ∷ c ∷ d ∷ r) h = absurd (omega arith)

-- there is room for one value more
pub room_for : (s b z : List ℕ) (k n m i j : ℕ) → s ≡ b ++ z → length b ≡ 4 → 4 * k + length s ≡ n → n ≤ 4 * m → i ≡ k → j ≡ k + 1 → (i < m) × (4 * j + length z ≡ n)
room_for s b z k n m i j e l f h p q = let a = ap length e in let d = length-append b z in (omega arith, omega arith)

-- of the values in the bytes, k are written over the first of the cells, and those of the bytes z are left
pub record Started (bytes z : List ℕ) (old : List ℤ) (k : ℕ) (new : List ℤ) : Type 0 where
  pub done : List ℤ
  pub many : length done ≡ k
  pub all : map signed_of (quads bytes) ≡ done ++ map signed_of (quads z)
  pub cells : new ≡ done ++ drop k old

module _ (bytes : List ℕ) (old : List ℤ) where
  pub started_none : (z : List ℕ) → z ≡ bytes → (k : ℕ) → k ≡ 0 → Started bytes z old k old
  started_none z e k f = record { done = []; many = sym f; all = ap (λ x. map signed_of (quads x)) (sym e); cells = ap (λ j. drop j old) (sym f) }

  pub started_more : (s b z : List ℕ) (k i j : ℕ) (new : List ℤ) (v : ℤ) → Started bytes s old k new → s ≡ b ++ z → length b ≡ 4 → v ≡ signed_of (quad_at b 0) → i ≡ k → j ≡ k + 1 → k < length old →
      Started bytes z old j (set new i v)
  started_more s b z k i j new v w e l q g f h =
      let p : map signed_of (quads s) ≡ v ∷ map signed_of (quads z) = ap (λ x. map signed_of (quads x)) e ∙ ap (map signed_of) (quad_off b z l) ∙ ap (λ x. x ∷ map signed_of (quads z)) (sym q) in
      let m = w.many in
      let n = length-append w.done (v ∷ []) in
      record {
        done = w.done ++ (v ∷ []);
        many = omega arith;
        all = w.all ∙ ap (λ x. w.done ++ x) p ∙ sym (append_assoc w.done (v ∷ []) (map signed_of (quads z)));
        cells = ap (λ x. set new x v) g ∙ ap (λ x. set x k v) (w.cells ∙ ap (λ x. w.done ++ x) (drop_more old k (pos 0) h)) ∙ set_at w.done (get_or old k (pos 0)) (drop (k + 1) old) v k m
            ∙ sym (append_assoc w.done (v ∷ []) (drop (k + 1) old)) ∙ ap (λ i. (w.done ++ (v ∷ [])) ++ drop i old) (sym f);
      }

  pub started_all : (z : List ℕ) (k : ℕ) (new : List ℤ) → Started bytes z old k new → length z < 4 → new ≡ map signed_of (quads bytes) ++ drop (length (map signed_of (quads bytes))) old
  started_all z k new w l =
      let e : map signed_of (quads bytes) ≡ w.done = w.all ∙ ap (λ q. w.done ++ map signed_of q) (no_quad z l) ∙ append-nil w.done in
      w.cells ∙ ap (λ i. w.done ++ drop i old) (sym w.many) ∙ ap (λ d. d ++ drop (length d) old) (sym e)
