-- What passes the quick test of an instruction reads.
use Rattle.std.proofs.Common.{◌≡◌, ℕ, zero, suc, ◌+◌, ◌<◌, ◌≤◌, List, get_or, Some, sym, refl, ap, ◌∙◌, subst, ⊎_elim, arith}
use denote.Param.Members.{Mut}
use Rattle.std.specs.Array.{IsFromFnResult, IsFromFnResultFrom}
use Rattle.std.specs.Fn.{Called}
use Rattle.std.proofs.lemmas.Bool.{cases_eq}
use Rattle.std.specs.Option.{option_map}
use Rattle.model.specs.Words.{word, find, table}
use Rattle.applet.specs.declared.glance.Glance.{Glance}
use Rattle.opcodes.specs.Table.{Row, ranges}
use Rattle.applet.specs.Glances.{Sees, Seen, blind}
use Rattle.opcodes.proofs.Decoding.{judged_row}

-- nothing passes a blind test
pub seen_blind : (n op : ℕ) → Seen n op blind
seen_blind n op q i size p e b w x y l s = absurd (omega arith)

-- a row's test is its opcode's
pub seen_row : (n op : ℕ) (r : Row) (g : Glance) → Some r ≡ option_map ranges (find op table) → Sees n r g → Seen n op g
seen_row n op r g h s q i size p e b w x y l z =
    let k = s q.b (word q.c q.d) i size b w x y l z in
    let f : Some r ≡ option_map ranges (find q.a table) = h ∙ ap (λ o. option_map ranges (find o table)) (sym e) in
    sym (judged_row n q size i p r f) ∙ rw (k.0, k.1)

-- what each call gives holds of the element that was made of it, where no call changes the closure
module _ {F B : Type 0} {g : Mut F (ℕ × Unit {0}) B} (P : ℕ → B → Type 0) (n : ℕ) (f : F) (ys : List B) (d : B)
    (gives : (i : ℕ) (q : F) (y : B) → i < n → Called g f (i, tt) y q → (q ≡ f) × P i y) where
  made_from : (m i : ℕ) (p : F) → p ≡ f → i + m ≡ n → IsFromFnResultFrom g p ys i m → (k : ℕ) → i ≤ k → k < n → P k (get_or ys k d)
  made_from zero i p e z h k a b = absurd (omega arith)
  made_from (suc m) i p e z (q, y, at, call, rest) k a b =
      let w = gives i q y (omega arith) (subst (λ (x : F). Called g x (i, tt) y q) e call) in
      ⊎_elim
      (λ s. subst (λ (j : ℕ). P j (get_or ys j d)) (sym s) (subst (P i) (sym (at.1 d)) w.1))
      (λ s. made_from m (i + 1) q w.0 (omega arith) rest k (omega arith) b) (cases_eq k i)

  pub made : IsFromFnResult g f ys n → (k : ℕ) → k < n → P k (get_or ys k d)
  made h k b = made_from n 0 f refl (omega arith) h.each k (omega arith) b
