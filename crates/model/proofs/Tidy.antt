-- The operands of blocks lie in their ranges, and skips do not leave them.
use Rattle.std.proofs.Common.{◌≡◌, ℕ, ◌+◌, ◌-◌, ◌<◌, ◌≤◌, Bool, true, false, cond, eqb, ltb, leb, ◌⊎◌, List, [], ◌∷◌, ◌++◌, length, pos, inl, inr, arith, length-append, w16, SFits}
use Rattle.std.specs.List.{AllByRecursion}
use Rattle.std.proofs.lemmas.Bool.{leb-true, ltb-true, and_parts}
use Rattle.model.specs.declared.Moment.{Moment}
use Rattle.model.specs.declared.Test.{Test}
use Rattle.model.specs.declared.Test.TheVariants.{Skip, Skz, Mset, Mcell, Store, Op}
use Rattle.model.specs.Policy.{arguments, Formed, reach, Enclosed}
use Rattle.model.specs.Rules.{constant, cell, argument, operator, Expr, Update, Rule, emit, emit_updates, emit_rules, block_of, balanced, ValidToken}
use Rattle.model.specs.Rules.{ValidUpdate, ValidRule}
use Rattle.model.specs.Tables.{states_block}
use Rattle.model.specs.declared.Operator.TheVariants.{Equal}

module _ (t : Moment) (low high : ℕ) where
  -- both that the tests are formed, and that they are enclosed
  abbrev pub Tidy : List Test → Type 0
  Tidy [] = Unit {0}
  Tidy (c ∷ cs) = (Formed t low high c × (reach c ≤ length cs)) × Tidy cs

  pub tidy_formed : (b : List Test) → Tidy b → AllByRecursion (Formed t low high) b
  tidy_formed [] h = tt
  tidy_formed (c ∷ cs) h = (h.0.0, tidy_formed cs h.1)

  pub tidy_enclosed : (b : List Test) → Tidy b → Enclosed b
  tidy_enclosed [] h = tt
  tidy_enclosed (c ∷ cs) h = (h.0.1, tidy_enclosed cs h.1)

  pub tidy_append : (xs ys : List Test) → Tidy xs → Tidy ys → Tidy (xs ++ ys)
  tidy_append [] ys h k = k
  tidy_append (x ∷ xs) ys h k = ((h.0.0, rw (length-append xs ys) (omega (arith, h.0.1))), tidy_append xs ys h.1 k)

module _ (t : Moment) (f w : ℕ) where
  tidy_emit : (d : ℕ) (e : Expr) → d ≤ 8 → AllByRecursion (ValidToken w (arguments t)) e → balanced d e ≡ true → Tidy t f (f + w) (emit f d e)
  tidy_emit d [] u g b = tt
  tidy_emit d (constant z ∷ e) u g b =
      let p = and_parts (ltb d 8) (balanced (d + 1) e) b in
      let q = ltb-true d 8 p.0 in
      (((q, g.0), omega arith), tidy_emit (d + 1) e (omega arith) g.1 p.1)
  tidy_emit d (cell i ∷ e) u g b =
      let p = and_parts (ltb d 8) (balanced (d + 1) e) b in
      let q = ltb-true d 8 p.0 in
      let h = g.0 in
      (((q, omega arith, omega arith), omega arith), tidy_emit (d + 1) e (omega arith) g.1 p.1)
  tidy_emit d (argument i ∷ e) u g b =
      let p = and_parts (ltb d 8) (balanced (d + 1) e) b in
      let q = ltb-true d 8 p.0 in
      (((q, g.0), omega arith), tidy_emit (d + 1) e (omega arith) g.1 p.1)
  tidy_emit d (operator o ∷ e) u g b =
      let p = and_parts (leb 2 d) (balanced (d - 1) e) b in
      let q = leb-true 2 d p.0 in
      ((omega arith, omega arith), tidy_emit (d - 1) e (omega arith) g.1 p.1)

  tidy_updates : (us : List Update) → AllByRecursion (ValidUpdate w (arguments t)) us → Tidy t f (f + w) (emit_updates f us)
  tidy_updates [] g = tt
  tidy_updates (u ∷ us) g =
      let h = g.0.0 in
      tidy_append t f (f + w) (emit f 0 u.value) (Store 0 (f + u.cell) ∷ emit_updates f us)
      (tidy_emit 0 u.value (omega arith) g.0.1.tokens g.0.1.balanced)
      (((omega arith, omega arith, omega arith), omega arith), tidy_updates us g.1)

  tidy_rules : (rs : List Rule) → AllByRecursion (λ r. ValidRule w r × (arguments r.moment ≡ arguments t)) rs → Tidy t f (f + w) (emit_rules f rs)
  tidy_rules [] g = ((tt, omega arith), tt)
  tidy_rules (r ∷ rs) g =
      let U = emit_updates f r.updates in
      let R = emit_rules f rs in
      let h = rw g.0.1 at g.0.0.guard in
      let us = tidy_updates r.updates (rw g.0.1 at g.0.0.updates) in
      tidy_append t f (f + w) (emit f 0 r.guard) (Skz 0 (length U + 1) ∷ U ++ (Skip (length R) ∷ R))
      (tidy_emit 0 r.guard (omega arith) h.tokens h.balanced) (
        (omega arith, rw (length-append U (Skip (length R) ∷ R)) (omega arith)),
        tidy_append t f (f + w) U (Skip (length R) ∷ R) us
            ((tt, omega arith), tidy_rules rs g.1),
      )

  pub tidy_block : (rs : List Rule) → AllByRecursion (λ r. ValidRule w r × (arguments r.moment ≡ arguments t)) rs → Tidy t f (f + w) (block_of f rs)
  tidy_block [] g = tt
  tidy_block (r ∷ rs) g = tidy_rules (r ∷ rs) g

  small : (n : ℕ) → n < 300 → SFits w16 (pos n)
  small n h = record { sfits = omega arith }

  pub tidy_states : (q : ℕ) (ns : List ℕ) → w ≡ 1 → q + length ns ≤ 16 → AllByRecursion (λ n. (n < 16) ⊎ (n ≡ 255)) ns → Tidy t f (f + w) (states_block f q ns)
  tidy_states q [] e l h = ((tt, omega arith), tt)
  tidy_states q (n ∷ ns) e l h = go (tidy_states (q + 1) ns e (omega arith) h.1) (eqb n 255)
    where
      n_small : n < 300
      n_small = elim h.0 [ inl u ↦ omega arith | inr v ↦ omega arith ]

      go : Tidy t f (f + w) (states_block f (q + 1) ns) → (b : Bool) →
          Tidy t f (f + w) (cond b (states_block f (q + 1) ns)
          (Mcell 0 f ∷ Mset 1 (pos q) ∷ Op 0 Equal ∷ Skz 0 3 ∷ Mset 0 (pos n) ∷ Store 0 f ∷ Skip
          (length (states_block f (q + 1) ns)) ∷ states_block f (q + 1) ns))
      go k true = k
      go k false = (
        ((omega arith, omega arith, omega arith), omega arith),
        (
          ((omega arith, small q (omega arith)), omega arith),
          (
            (omega arith, omega arith),
            (
              (omega arith, omega arith),
              (
                ((omega arith, small n n_small), omega arith),
                (
                  ((omega arith, omega arith, omega arith), omega arith),
                  ((tt, omega arith), k),
                ),
              ),
            ),
          ),
        ),
      )
