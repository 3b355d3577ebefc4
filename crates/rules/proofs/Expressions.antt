-- Tokens and expressions, by chunks of three bytes.
use Rattle.std.proofs.Common.{◌≡◌, ℕ, ◌<◌, min, Bool, true, false, cond, ◌&&◌, ltb, leb, List, [], ◌∷◌, ◌++◌, length, Some, None, Option, sym, refl, ap, ◌∙◌, subst, arith}
use Rattle.std.proofs.lemmas.Bool.{and_right, and_parts}
use Rattle.std.specs.List.{AllByRecursion}
use Rattle.model.specs.Rules.{Token, constant, cell, argument, operator, Expr, tokens, both, balanced, expr_bytes, ValidToken, ValidExpr}
use Rattle.model.proofs.PolicyRoundTrip.{tokens_write}
use Rattle.rules.specs.Tokens.{first_token, room, after, well_held}

-- a number that was given since a test holds
pub given_by : {X : Type 0} (b : Bool) (x y : X) → Some y ≡ cond b (Some x) None → (b ≡ true) × (y ≡ x)
given_by true x y e = (refl, cc)
given_by false x y e = absurd (let z : ◌≡◌ {A = ℕ} 0 1 = cc in omega arith)

-- no number was given since a test fails
pub not_given : {X : Type 0} (b : Bool) (x : X) → None ≡ cond b (Some x) None → b ≡ false
not_given true x e = absurd (let z : ◌≡◌ {A = ℕ} 0 1 = cc in omega arith)
not_given false x e = refl

-- the first k of the bytes s, or all where there are fewer
abbrev pub Chunk : ℕ → List ℕ → List ℕ → List ℕ → Type 0
Chunk k s x z = (s ≡ x ++ z) × (length x ≡ min k (length s)) × (0 < length s)

module _ (n a : ℕ) where
  by_three : (x z : List ℕ) → length x ≡ min 3 (length (x ++ z)) → 0 < length (x ++ z) → tokens n a (x ++ z) ≡ both (first_token n a x) (tokens n a z)
  by_three [] z l h = absurd (omega arith)
  by_three (k ∷ []) [] l h = refl
  by_three (k ∷ []) (y ∷ z) l h = absurd (omega arith)
  by_three (k ∷ x ∷ []) [] l h = refl
  by_three (k ∷ x ∷ []) (y ∷ z) l h = absurd (omega arith)
  by_three (k ∷ x ∷ y ∷ []) z l h = refl
  by_three (k ∷ x ∷ y ∷ w ∷ r) z l h = absurd (omega arith)

  pub by_chunk : (k : ℕ) (s x z : List ℕ) (o : Option Token) → k ≡ 3 → Chunk k s x z → o ≡ first_token n a x → tokens n a s ≡ both o (tokens n a z)
  by_chunk k s x z o e c f =
      let l : length x ≡ min 3 (length s) = c.1 ∙ ap (λ j. min j (length s)) e in
      let h : 0 < length (x ++ z) = subst (λ (w : List ℕ). 0 < length w) c.0 c.2 in
      let m : length x ≡ min 3 (length (x ++ z)) = subst (λ (w : List ℕ). length x ≡ min 3 (length w)) c.0 l in
      ap (tokens n a) c.0 ∙ by_three x z m h ∙ ap (λ q. both q (tokens n a z)) (sym f)

  pub no_chunk : (s : List ℕ) → length s ≡ 0 → tokens n a s ≡ Some []
  no_chunk [] e = refl
  no_chunk (x ∷ s) e = absurd (omega arith)

one_more : (d : ℕ) (t : Token) (o : Option Expr) → well_held d (both (Some t) o) ≡ room d t && well_held (after d t) o
one_more d (constant z) None = sym (and_right (ltb d 8) false refl)
one_more d (cell i) None = sym (and_right (ltb d 8) false refl)
one_more d (argument i) None = sym (and_right (ltb d 8) false refl)
one_more d (operator o) None = sym (and_right (leb 2 d) false refl)
one_more d (constant z) (Some ts) = refl
one_more d (cell i) (Some ts) = refl
one_more d (argument i) (Some ts) = refl
one_more d (operator o) (Some ts) = refl

module _ (d : ℕ) (o p : Option Expr) where
  -- no token is there
  pub held_none : p ≡ both None o → well_held d p ≡ false
  held_none e = ap (well_held d) e

  module _ (t : Token) (e : p ≡ both (Some t) o) where
    pub held_more : room d t ≡ true → well_held (after d t) o ≡ well_held d p
    held_more f = sym (ap (well_held d) e ∙ one_more d t o ∙ ap (λ b. b && well_held (after d t) o) f)

    pub held_over : room d t ≡ false → well_held d p ≡ false
    held_over f = ap (well_held d) e ∙ one_more d t o ∙ ap (λ b. b && well_held (after d t) o) f

-- ---- an expression that is left to read

by_room : (d : ℕ) (t : Token) (ts : Expr) → balanced d (t ∷ ts) ≡ room d t && balanced (after d t) ts
by_room d (constant z) ts = refl
by_room d (cell i) ts = refl
by_room d (argument i) ts = refl
by_room d (operator o) ts = refl

taken_off : (t : Token) (o : Option Expr) (ts : Expr) → both (Some t) o ≡ Some ts → (us : Expr) × (ts ≡ t ∷ us) × (o ≡ Some us)
taken_off t None ts e = absurd (let z : ◌≡◌ {A = ℕ} 0 1 = cc in omega arith)
taken_off t (Some us) ts e = (us, cc, refl)

module _ (n a : ℕ) where
  -- the bytes s, with d values held
  pub record Unread (s : List ℕ) (d : ℕ) : Type 0 where
    pub rest : Expr
    pub reads : tokens n a s ≡ Some rest
    pub balance : balanced d rest ≡ true
    pub valid : AllByRecursion (ValidToken n a) rest

  abbrev pub unread_start : (s : List ℕ) (d : ℕ) (ts : Expr) → s ≡ expr_bytes ts → d ≡ 0 → ValidExpr n a ts → Unread s d
  unread_start s d ts e z w = record { rest = ts; reads = ap (tokens n a) e ∙ tokens_write n a ts w.tokens; balance = ap (λ k. balanced k ts) z ∙ w.balanced; valid = w.tokens }

  module _ (s : List ℕ) (d : ℕ) (u : Unread s d) where
    pub unread_some : (o : Option Expr) → tokens n a s ≡ both None o → ⊥
    unread_some o e = let q : ◌≡◌ {A = Option Expr} None (Some u.rest) = sym e ∙ u.reads in let z : ◌≡◌ {A = ℕ} 0 1 = cc in omega arith

    pub unread_end : length s ≡ 0 → u.rest ≡ []
    unread_end l = let z : Some u.rest ≡ Some [] = sym u.reads ∙ no_chunk n a s l in cc

    -- one token more is read
    pub record Off (t : Token) (z : List ℕ) : Type 0 where
      pub roomy : room d t ≡ true
      pub valid : ValidToken n a t
      pub more : Unread z (after d t)
      pub all : u.rest ≡ t ∷ more.rest

    pub unread_more : (t : Token) (z : List ℕ) → tokens n a s ≡ both (Some t) (tokens n a z) → Off t z
    unread_more t z e =
        let o = taken_off t (tokens n a z) u.rest (sym e ∙ u.reads) in
        let p = and_parts _ _ (sym (ap (balanced d) o.1 ∙ by_room d t o.0) ∙ u.balance) in
        let v = subst (AllByRecursion (ValidToken n a)) o.1 u.valid in
        record { roomy = p.0; valid = v.0; more = record { rest = o.0; reads = o.2; balance = p.1; valid = v.1 }; all = o.1 }
