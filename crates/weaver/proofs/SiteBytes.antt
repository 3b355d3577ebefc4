-- Sites in bytes.
use Rattle.std.proofs.Common.{◌≡◌, ℕ, zero, suc, ◌+◌, ◌-◌, ◌*◌, ◌<◌, ◌≤◌, Bool, true, false, ◌||◌, eqb, leb, List, [], ◌∷◌, ◌++◌, map, length, get_or, take, drop, Ok, refl, ap, subst, ◌∙◌, ap₂, ⊎_elim, append_assoc, arith, length-drop, drop-drop}
use borrow.Rule.Slice.PartMut.{put_mid, mid_of}
use denote.Param.Members.{Mut, Called}
use Rattle.std.specs.Array.{IsFromFnResult, IsFromFnResultFrom}
use Rattle.std.proofs.lemmas.List.{take_rest}
use Rattle.std.proofs.lemmas.Bool.{le-leb, cases_eq}
use Rattle.model.specs.declared.Instr.{Instr}
use Rattle.model.specs.declared.Own.{Own}
use Rattle.model.specs.declared.Test.{Test}
use Rattle.model.specs.declared.Moment.{Moment}
use Rattle.model.specs.Policy.{Automaton, Blocks}
use Rattle.model.specs.Fields.{◌>>=◌}
use Rattle.model.specs.Calls.{watched_answer, block_bytes, block_area}
use Rattle.model.specs.Weave.{site}
use Rattle.policy.specs.Calls.{put_at}
use Rattle.policy.proofs.Pairs.{put_rest}
use Rattle.weaver.specs.Pieces.{host_size}

-- ---- watched calls

module _ (A : Automaton) (k : ℕ) (h : k < 64) where
  pub known : watched_answer A k ≡ Ok (A.watched k)
  unfolding ◌>>=◌
  known = rw (le-leb k 63 (omega arith))

  pub unwatched_size : (B : Blocks) → A.watched k ≡ false → 1 ≡ host_size A B k
  unwatched_size B e = rw e

  pub watched_size : (B : Blocks) (b a r : ℕ) → A.watched k ≡ true → b ≡ length (B k Moment.Before 0) → a ≡ length (B k Moment.After 0) →
      r ≡ length (B k Moment.Raised 0) → b + a + r + 6 ≡ host_size A B k
  watched_size B b a r e p q s = rw e (omega arith)

-- an array of what a closure gives at each index, where it changes no capture and computes h
module _ {F : Type 0} (g : Mut F (ℕ × Unit {0}) ℕ) (h : ℕ → ℕ) (f : F) (ys : List ℕ) (n : ℕ)
    (gives : (i y : ℕ) (q : F) → i < n → Called g f (i, tt) y q → (q ≡ f) × (y ≡ h i)) where
  made_from : (i m : ℕ) (p : F) → p ≡ f → i + m ≤ n → IsFromFnResultFrom g p ys i m → (k : ℕ) → i ≤ k → k < i + m → get_or ys k 0 ≡ h k
  made_from i zero p e l r k a b = absurd (omega arith)
  made_from i (suc m) p e l (q, y, at, c, r) k a b =
      let this = gives i y q (omega arith) (subst (λ p. Called g p (i, tt) y q) e c) in
      ⊎_elim (λ z. rw z (at.1 0 ∙ this.1)) (λ z. made_from (i + 1) m q this.0 (omega arith) r k (omega arith) (omega arith)) (cases_eq k i)

  pub made : IsFromFnResult g f ys n → (k : ℕ) → k < n → get_or ys k 0 ≡ h k
  made r k l = made_from 0 n f refl (omega arith) r.each k (omega arith) (omega arith)

-- ---- a block

module _ (A : Automaton) (B : Blocks) (k : ℕ) (t : Moment) (known : k < 64) (narrow : A.width ≤ 32) (short : length (B k t 0) ≤ 1000) where
  narrow_test : (eqb A.width 0 || leb (0 + A.width) 32) ≡ true
  narrow_test = go (eqb A.width 0)
    where
      go : (b : Bool) → (b || leb (0 + A.width) 32) ≡ true
      go true = refl
      go false = le-leb (0 + A.width) 32 (omega arith)

  block_written : (area : List ℕ) → 4 * length (B k t 0) ≤ length area → block_area A B k t 0 area ≡ block_bytes (B k t 0) ++ drop (length (block_bytes (B k t 0))) area
  unfolding ◌>>=◌
  block_written area room = rw (le-leb k 63 (omega arith), narrow_test, le-leb (length (B k t 0)) 1000 short, le-leb (4 * length (B k t 0)) (length area) room)

  pub block_put : (area last : List ℕ) (at : ℕ) → at + 4 * length (B k t 0) ≤ length area → last ≡ block_area A B k t 0 (mid_of at (length area - at) area) →
      put_mid at (length area - at) area last ≡ put_at area at (block_bytes (B k t 0))
  block_put area last at room e =
      let l = length-drop at area in
      put_rest area last at (omega arith) ∙ ap (λ z. take at area ++ z)
      (e ∙ ap (block_area A B k t 0) (take_rest area at) ∙ block_written (drop at area) (omega arith) ∙
      ap (λ z. block_bytes (B k t 0) ++ z) (drop-drop (length (block_bytes (B k t 0))) at area))

-- ---- what stands for one instruction

-- nine parts put together
nine : {X : Type 0} (b a r : List X) (l h u s v j : X) →
    ((((((((l ∷ []) ++ b) ++ (h ∷ [])) ++ a) ++ (u ∷ [])) ++ (s ∷ [])) ++ r) ++ (v ∷ [])) ++ (j ∷ []) ≡ l ∷ ((b ++ (h ∷ (a ++ (u ∷ (s ∷ (r ++ (v ∷ []))))))) ++ (j ∷ []))
nine b a r l h u s v j = simp append_assoc refl

module _ (block : ℕ → Moment → List Test) where
  pub site_is : (i k t h s : ℕ) → h ≡ i + (length (block k Moment.Before) + (length (block k Moment.After) + 4)) → s ≡ length (block k Moment.Raised) + 2 →
      ((((((((Instr.Lock k ∷ []) ++ map Instr.Test (block k Moment.Before)) ++ (Instr.Own (Own.Host k h) ∷ [])) ++ map Instr.Test (block k Moment.After)) ++ (Instr.Unlock ∷ [])) ++
      (Instr.Test (Test.Skip s) ∷ [])) ++ map Instr.Test (block k Moment.Raised)) ++ (Instr.Unlock ∷ [])) ++ (Instr.Own (Own.Jump t) ∷ []) ≡ site block i k t
  site_is i k t h s e f = nine (map Instr.Test (block k Moment.Before)) (map Instr.Test (block k Moment.After)) (map Instr.Test (block k Moment.Raised)) _ _ _ _ _ _ ∙
      ap₂ (λ h s. Instr.Lock k ∷ ((map Instr.Test (block k Moment.Before) ++ (Instr.Own (Own.Host k h) ∷ (map Instr.Test (block k Moment.After) ++
      (Instr.Unlock ∷ (Instr.Test (Test.Skip s) ∷ (map Instr.Test (block k Moment.Raised) ++ (Instr.Unlock ∷ []))))))) ++ (Instr.Own (Own.Jump t) ∷ []))) e f
