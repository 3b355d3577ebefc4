-- The values of an expression, on a stack.
use Rattle.std.proofs.Common.{◌≡◌, ℕ, zero, suc, ◌+◌, ◌-◌, ◌<◌, ◌≤◌, true, List, [], ◌∷◌, length, get_or, set, ℤ, pos, Some, None, Option, MatchOption, unwrap_or, sym, refl, ap, ◌∙◌, ap₂, arith}
use Rattle.std.proofs.lemmas.List.{get_or-set_same, get_or-set_other}
use Rattle.std.proofs.lemmas.Bool.{leb-true}
use Rattle.model.specs.declared.Operator.{Operator}
use Rattle.model.specs.Policy.{operate}
use Rattle.model.specs.Rules.{Token, constant, cell, argument, operator, Expr, emit, operated, taken, ValidToken}
use Rattle.rules.specs.Tokens.{room, after}
use Rattle.rules.specs.Values.{held}
use Rattle.rules.specs.Writer.{IsCoded}
use Rattle.model.specs.declared.Test.{Test}

pub length_held : (m : List ℤ) (d : ℕ) → length (held m d) ≡ d
length_held m zero = refl
length_held m (suc d) = ap suc (length_held m d)

held_set : (m : List ℤ) (d k : ℕ) (v : ℤ) → k ≤ d → held (set m d v) k ≡ held m k
held_set m d zero v h = refl
held_set m d (suc k) v h = ap₂ (λ x xs. x ∷ xs) (get_or-set_other m d k v (pos 0) (λ e. omega arith)) (held_set m d k v (omega arith))

pub held_more : (m : List ℤ) (d e : ℕ) (v : ℤ) → e ≡ d + 1 → d < length m → held (set m d v) e ≡ v ∷ held m d
held_more m d e v p h =
    let q : e ≡ suc d = omega arith in
    ap (held (set m d v)) q ∙ ap₂ (λ x xs. x ∷ xs) (get_or-set_same m d v (pos 0) h) (held_set m d d v (omega arith))

pub held_less : (m : List ℤ) (d : ℕ) → 0 < d → held m d ≡ get_or m (d - 1) (pos 0) ∷ held m (d - 1)
held_less m d h = let q : d ≡ suc (d - 1) = omega arith in ap (held m) q

-- a value laid on the values h, if there is room
pub pushed : (r : Option (Unit {0})) (h k : List ℤ) (v w : ℤ) → v ≡ w → length h < 8 → MatchOption r (8 ≤ length h) (λ _. k ≡ v ∷ h) → (r ≡ Some tt) × (k ≡ w ∷ h)
pushed None h k v w e l m = absurd (omega arith)
pushed (Some u) h k v w e l m = (refl, m ∙ ap (λ x. x ∷ h) e)

-- an operator's value laid on what is left behind its two
pub pushed_over : (o : Operator) (r : Option (Unit {0})) (h i j k : List ℤ) (b a v : ℤ) → h ≡ b ∷ i → i ≡ a ∷ j → v ≡ operate o a b → length h ≤ 8 →
    MatchOption r (8 ≤ length j) (λ _. k ≡ v ∷ j) → (r ≡ Some tt) × (k ≡ operated o h)
pushed_over o r h i j k b a v p q e l m =
    let f = ap length p in
    let g = ap length q in
    let x = pushed r j k v _ e (omega arith) m in
    (x.0, x.1 ∙ sym (ap (operated o) (p ∙ ap (λ z. b ∷ z) q)))

-- the value on top, or 0
pub popped_or : (r : Option ℤ) (h k : List ℤ) → MatchOption r (h ≡ []) (λ v. h ≡ v ∷ k) → unwrap_or r (pos 0) ≡ get_or h 0 (pos 0)
popped_or None h k m = sym (ap (λ x. get_or x 0 (pos 0)) m)
popped_or (Some v) h k m = sym (ap (λ x. get_or x 0 (pos 0)) m)

-- how many values are held behind a token
pub taken_long : (a c : List ℤ) (t : Token) (vs : List ℤ) → room (length vs) t ≡ true → length (taken a c t vs) ≡ after (length vs) t
taken_long a c (constant z) vs r = omega arith
taken_long a c (cell i) vs r = omega arith
taken_long a c (argument i) vs r = omega arith
taken_long a c (operator o) [] r = absurd (let k = leb-true 2 0 r in omega arith)
taken_long a c (operator o) (y ∷ []) r = absurd (let k = leb-true 2 1 r in omega arith)
taken_long a c (operator o) (y ∷ x ∷ vs) r = omega arith

-- the code of an expression begins with that of its first token
pub emit_first : (n a f d : ℕ) (t : Token) (ts : Expr) (i : Test) → ValidToken n a t → IsCoded n f d t i → emit f d (t ∷ ts) ≡ i ∷ emit f (after d t) ts
emit_first n a f d (constant z) ts i v e = ap (λ x. x ∷ emit f (d + 1) ts) (sym e)
emit_first n a f d (cell j) ts i v e = ap (λ x. x ∷ emit f (d + 1) ts) (sym (e v))
emit_first n a f d (argument j) ts i v e = ap (λ x. x ∷ emit f (d + 1) ts) (sym e)
emit_first n a f d (operator o) ts i v e = ap (λ x. x ∷ emit f (d - 1) ts) (sym e)
