-- The check of one method's code: a walk from index 0, then the targets.
use Rattle.std.specs.Prelude.{ℕ, zero, suc, ◌+◌, Bool, true, false, cond, List, [], ◌∷◌, Some, None, Option, slice_index_or}
use Rattle.model.specs.declared.Refusal.{Refusal}
use Rattle.model.specs.declared.Moment.{Moment}
use Rattle.model.specs.declared.Own.{Own}
use Rattle.model.specs.declared.Test.{Test}
use Rattle.model.specs.declared.Instr.{Instr}
use Rattle.model.specs.Weave.{target, watched_call, inner, behind}
use Rattle.model.specs.Words.{same}
use Rattle.model.specs.declared.Refusal.TheVariants.{OutsideSite, OffSite, NoEntry}

-- a fault: how it is refused at a place, and the index of its instruction
pub record Fault : Type 0 where
  pub refusal : ℕ → Refusal
  pub index : ℕ

-- a fault
abbrev pub fault : (ℕ → Refusal) → ℕ → Option Fault
fault why i = Some (record { refusal = why; index = i })

-- f of what there is, else x
abbrev pub given : {A B : Type 0} → Option A → (A → B) → B → B
given (Some a) f x = f a
given None f x = x

-- the target of an instruction, where it has one
abbrev pub target_of : Instr → Option ℕ
target_of (Instr.Own o) = target o
target_of (Instr.Lock k) = None
target_of Instr.Unlock = None
target_of (Instr.Test c) = None

-- a JUMP, whatever its target
abbrev pub is_jump : Instr → Bool
is_jump (Instr.Own (Own.Jump n)) = true
is_jump (Instr.Own (Own.Brz x n)) = false
is_jump (Instr.Own (Own.Host k n)) = false
is_jump (Instr.Own (Own.Set x y)) = false
is_jump (Instr.Own (Own.Mov x y)) = false
is_jump (Instr.Own (Own.Add x y)) = false
is_jump (Instr.Own (Own.Sub x y)) = false
is_jump (Instr.Own (Own.Lt x y)) = false
is_jump (Instr.Own (Own.Eq x y)) = false
is_jump (Instr.Own (Own.Get x y)) = false
is_jump (Instr.Own (Own.Put x y)) = false
is_jump (Instr.Own (Own.Call x)) = false
is_jump (Instr.Own Own.Ret) = false
is_jump (Instr.Own Own.End) = false
is_jump (Instr.Lock k) = false
is_jump Instr.Unlock = false
is_jump (Instr.Test c) = false

-- a target, if there is one, is an entry
abbrev pub is_entry : List Bool → Option ℕ → Bool
is_entry es None = true
is_entry es (Some t) = slice_index_or es t false

-- the index of the first instruction that is off what is expected, with a JUMP behind it all
abbrev pub off : ℕ → List Instr → List Instr → Option ℕ
off i [] [] = Some i
off i [] (c ∷ cs) = cond (is_jump c) None (Some i)
off i (e ∷ es) [] = Some i
off i (e ∷ es) (c ∷ cs) = cond (same e c) (off (i + 1) es cs) (Some i)

module _ (block : ℕ → Moment → List Test) where
  -- which indices are entries; the first n instructions are behind a LOCK
  abbrev pub marks : ℕ → List Instr → List Bool
  marks n [] = []
  marks (suc n) (c ∷ cs) = false ∷ marks n cs
  marks zero (Instr.Own o ∷ cs) = true ∷ marks zero cs
  marks zero (Instr.Lock k ∷ cs) = true ∷ marks (behind block k) cs
  marks zero (Instr.Unlock ∷ cs) = false ∷ marks zero cs
  marks zero (Instr.Test c ∷ cs) = false ∷ marks zero cs

  -- the first target that is no entry; that of a site's HOST is left aside
  abbrev pub stray : List Bool → ℕ → ℕ → List Instr → Option Fault
  stray es i n [] = None
  stray es i (suc (suc n)) (c ∷ cs) = stray es (i + 1) (suc n) cs
  stray es i (suc zero) (c ∷ cs) = cond (is_entry es (target_of c)) (stray es (i + 1) zero cs) (fault NoEntry i)
  stray es i zero (Instr.Own o ∷ cs) = cond (is_entry es (target o)) (stray es (i + 1) zero cs) (fault NoEntry i)
  stray es i zero (Instr.Lock k ∷ cs) = stray es (i + 1) (behind block k) cs
  stray es i zero (Instr.Unlock ∷ cs) = stray es (i + 1) zero cs
  stray es i zero (Instr.Test c ∷ cs) = stray es (i + 1) zero cs

module _ (watched : ℕ → Bool) (block : ℕ → Moment → List Test) where
  -- 31 and 32 from index i on; the first n instructions are of a site that was compared
  abbrev pub walk : ℕ → ℕ → List Instr → Option Fault
  walk i zero [] = None
  walk i (suc n) [] = None
  walk i (suc n) (c ∷ cs) = walk (i + 1) n cs
  walk i zero (Instr.Own o ∷ cs) = given (watched_call watched o) (λ c. fault OutsideSite i) (walk (i + 1) zero cs)
  walk i zero (Instr.Lock k ∷ cs) =
      cond (watched k) (given (off (i + 1) (inner block i k) cs) (λ j. fault OffSite j) (walk (i + 1) (behind block k) cs)) (fault OffSite i)
  walk i zero (Instr.Unlock ∷ cs) = fault OffSite i
  walk i zero (Instr.Test c ∷ cs) = fault OffSite i

  -- the fault of a method: 31 and 32 by index, then 33
  abbrev pub method_fault : List Instr → Option Fault
  method_fault code = given (walk 0 zero code) (λ f. Some f) (stray block (marks block zero code) 0 zero code)
