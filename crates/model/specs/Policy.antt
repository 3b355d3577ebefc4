-- What a policy means, what its blocks do, and what it owes.
use Rattle.std.specs.Prelude.{◌≡◌, ℕ, zero, suc, ◌+◌, ◌<◌, ◌≤◌, Bool, true, false, cond, not, ◌&&◌, ◌||◌, List, [], ◌∷◌, ◌++◌, length, ℤ, pos, negsuc, ◌+ℤ◌, ◌-ℤ◌, Some, None, Option, FitsSigned, ◌==◌, int_lt, slice_index_or, slice_set}
use Rattle.std.specs.List.{AllByRecursion}
use Rattle.std.specs.Int.{int_wrap, w16, w32}
use Rattle.model.specs.declared.Event.{Event}
use Rattle.model.specs.declared.Moment.{Moment}
use Rattle.model.specs.declared.Operator.{Operator}
use Rattle.model.specs.declared.Operator.TheVariants.{Plus, Minus, Less, Equal, Both, Either}
use Rattle.model.specs.declared.Test.{Test}
use Rattle.model.specs.declared.Test.TheVariants.{Skip, Skz, Viol, Mset, Mcell, Marg, Store, Op}

-- what a policy means: cells, their start values, the watched calls, and a step that gives cells or refuses
pub record Automaton : Type 0 where
  pub width : ℕ
  pub starts : List ℤ
  pub watched : ℕ → Bool
  pub step : Event → List ℤ → Option (List ℤ)

-- call, moment, first cell
abbrev pub Blocks : Type 0
Blocks = ℕ → Moment → ℕ → List Test

-- two signed numbers are equal
abbrev pub eqZ : ℤ → ℤ → Bool
eqZ (pos a) (pos b) = a == b
eqZ (pos a) (negsuc b) = false
eqZ (negsuc a) (pos b) = false
eqZ (negsuc a) (negsuc b) = a == b

-- 1 or 0
abbrev pub flag : Bool → ℤ
flag true = pos 1
flag false = pos 0

-- the six operators
abbrev pub operate : Operator → ℤ → ℤ → ℤ
operate Plus a b = int_wrap w32 (a +ℤ b)
operate Minus a b = int_wrap w32 (a -ℤ b)
operate Less a b = flag (int_lt a b)
operate Equal a b = flag (eqZ a b)
operate Both a b = flag (not (eqZ a (pos 0)) && not (eqZ b (pos 0)))
operate Either a b = flag (not (eqZ a (pos 0)) || not (eqZ b (pos 0)))

-- what one test does: how many of the tests behind it are passed over, the cells and the scratch numbers after it
pub data Turn : Type 0 where
  went : ℕ → List ℤ → List ℤ → Turn
  halts : Turn

-- one test, with a0 to a4 in a, the cells s and the scratch numbers m
abbrev pub turn : List ℤ → Test → List ℤ → List ℤ → Turn
turn a (Skip n) s m = Turn.went n s m
turn a (Skz x n) s m = Turn.went (cond (eqZ (slice_index_or m x (pos 0)) (pos 0)) n 0) s m
turn a Viol s m = Turn.halts
turn a (Mset x y) s m = Turn.went 0 s (slice_set m x y)
turn a (Mcell x y) s m = Turn.went 0 s (slice_set m x (slice_index_or s y (pos 0)))
turn a (Marg x y) s m = Turn.went 0 s (slice_set m x (slice_index_or a y (pos 0)))
turn a (Store x y) s m = Turn.went 0 (slice_set s y (slice_index_or m x (pos 0))) m
turn a (Op x o) s m = Turn.went 0 s (slice_set m x (operate o (slice_index_or m x (pos 0)) (slice_index_or m (x + 1) (pos 0))))

-- what a run of a block comes to
pub data Ran : Type 0 where
  reached : List ℤ → List ℤ → Ran
  stopped : Ran
  astray : Ran

-- the first k tests are passed over
abbrev pub exec : List ℤ → ℕ → List Test → List ℤ → List ℤ → Ran
exec a zero [] s m = reached s m
exec a (suc k) [] s m = astray
exec a (suc k) (i ∷ is) s m = exec a k is s m
exec a zero (i ∷ is) s m = elim (turn a i s m) [ went n s' m' ↦ exec a n is s' m' | halts ↦ stopped ]

-- the same, with the scratch numbers left aside
pub data End : Type 0 where
  cells : List ℤ → End
  stop : End
  lost : End

-- where a run came to, with its cells
abbrev pub end : Ran → End
end (reached s m) = End.cells s
end stopped = End.stop
end astray = End.lost

-- what the step's answer asks of the block, between the cells l before and the cells r behind the policy's own
abbrev pub due : List ℤ → List ℤ → Option (List ℤ) → End
due l r None = End.stop
due l r (Some c) = End.cells (l ++ (c ++ r))

-- how many of a0 to a4 a block of this moment may read: before has no answer
abbrev pub arguments : Moment → ℕ
arguments Moment.Before = 4
arguments Moment.After = 5
arguments Moment.Raised = 5

-- operands in their ranges at a moment, cells from `low` up to below `high`
abbrev pub Formed : Moment → ℕ → ℕ → Test → Type 0
Formed t low high (Skip n) = Unit {0}
Formed t low high (Skz x n) = x < 8
Formed t low high Viol = Unit {0}
Formed t low high (Mset x y) = (x < 8) × FitsSigned w16 y
Formed t low high (Mcell x y) = (x < 8) × (low ≤ y) × (y < high)
Formed t low high (Marg x y) = (x < 8) × (y < arguments t)
Formed t low high (Store x y) = (x < 8) × (low ≤ y) × (y < high)
Formed t low high (Op x o) = x < 7

-- how many of the tests behind it a test may pass over
abbrev pub reach : Test → ℕ
reach (Skip n) = n
reach (Skz x n) = n
reach Viol = 0
reach (Mset x y) = 0
reach (Mcell x y) = 0
reach (Marg x y) = 0
reach (Store x y) = 0
reach (Op x o) = 0

-- skips stay inside or land at the end
abbrev pub Enclosed : List Test → Type 0
Enclosed [] = Unit {0}
Enclosed (i ∷ is) = (reach i ≤ length is) × Enclosed is

-- what every policy must show: of its meaning, asked only of rows as long as its width, and of its blocks
pub record Showing (A : Automaton) (B : Blocks) : Type 0 where
  -- one start value for each cell, of signed 32 bits
  pub starts : length A.starts ≡ A.width
  pub signed : AllByRecursion (FitsSigned w32) A.starts
  -- a step gives as many cells as it took
  pub keeps : (e : Event) (c d : List ℤ) → length c ≡ A.width → A.step e c ≡ Some d → length d ≡ A.width
  -- on an unwatched call it passes unchanged
  pub passes : (e : Event) (c : List ℤ) → length c ≡ A.width → A.watched e.call ≡ false → A.step e c ≡ Some c
  -- before ignores the answer
  pub blind : (k : ℕ) (xs : List ℤ) (v w : ℤ) (c : List ℤ) → length xs ≡ 4 → length c ≡ A.width →
      A.step (record { moment = Moment.Before; call = k; args = xs; answer = v }) c ≡ A.step (record { moment = Moment.Before; call = k; args = xs; answer = w }) c
  -- call and moment alone fix a block's length
  pub placed : (k : ℕ) (t : Moment) (f g : ℕ) → length (B k t f) ≡ length (B k t g)
  -- an unwatched call's blocks are empty
  pub unwatched : (k : ℕ) (t : Moment) (f : ℕ) → A.watched k ≡ false → B k t f ≡ []
  -- operands in their ranges, cells in the width from the first cell, no a4 before
  pub formed : (k : ℕ) (t : Moment) (f : ℕ) → AllByRecursion (Formed t f (f + A.width)) (B k t f)
  -- skips stay inside or land at the end
  pub enclosed : (k : ℕ) (t : Moment) (f : ℕ) → Enclosed (B k t f)
  -- from the top, with any cells, any scratch and the event in a0 to a4, a block reaches its end with the stepped cells, or VIOL exactly if the step refuses
  pub runs : (k : ℕ) (t : Moment) (f : ℕ) (l c r : List ℤ) → length l ≡ f → length c ≡ A.width →
      (xs : List ℤ) (v : ℤ) (m : List ℤ) → length xs ≡ 4 → length m ≡ 8 →
      end (exec (xs ++ (v ∷ [])) 0 (B k t f) (l ++ (c ++ r)) m) ≡ due l r (A.step (record { moment = t; call = k; args = xs; answer = v }) c)

-- from cells, four arguments and an answer of signed 32 bits, a step gives cells of signed 32 bits
abbrev pub StaysSigned : Automaton → Type 0
StaysSigned A = (e : Event) (c d : List ℤ) → length c ≡ A.width → length e.args ≡ 4 → AllByRecursion (FitsSigned w32) c → AllByRecursion (FitsSigned w32) e.args →
    FitsSigned w32 e.answer → A.step e c ≡ Some d → AllByRecursion (FitsSigned w32) d
