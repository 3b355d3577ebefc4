-- Moments, and their numbers.
use Rattle.std.specs.Prelude.{ℕ, zero, suc, Bool, true, false, ◌&&◌, Ok, nat_le}
use Rattle.model.specs.declared.Moment.{Moment}
use Rattle.model.specs.declared.Refusal.TheVariants.{NoSuchEvent}
use Rattle.model.specs.Fields.{Read, need, ◌>>◌}

-- the number of a moment
abbrev pub moment_number : Moment → ℕ
moment_number Moment.Before = 0
moment_number Moment.After = 1
moment_number Moment.Raised = 2

-- the moment of a number; there are three
abbrev pub moment_of : ℕ → Moment
moment_of zero = Moment.Before
moment_of (suc zero) = Moment.After
moment_of (suc (suc n)) = Moment.Raised

-- the moment of a number that a host program gives: 8 where there is none
abbrev pub moment_numbered : ℕ → Read Moment
moment_numbered n = need (nat_le n 2) NoSuchEvent >> Ok (moment_of n)

-- it is the moment before a call
abbrev pub is_before : Moment → Bool
is_before Moment.Before = true
is_before Moment.After = false
is_before Moment.Raised = false

-- two moments are the same
abbrev pub same_moment : Moment → Moment → Bool
same_moment Moment.Before Moment.Before = true
same_moment Moment.Before Moment.After = false
same_moment Moment.Before Moment.Raised = false
same_moment Moment.After Moment.Before = false
same_moment Moment.After Moment.After = true
same_moment Moment.After Moment.Raised = false
same_moment Moment.Raised Moment.Before = false
same_moment Moment.Raised Moment.After = false
same_moment Moment.Raised Moment.Raised = true

-- a test holds of each moment
abbrev pub each_moment : (Moment → Bool) → Bool
each_moment p = p Moment.Before && p Moment.After && p Moment.Raised
