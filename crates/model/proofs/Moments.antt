-- Moments and their numbers.
use Rattle.std.proofs.Common.{◌≡◌, ℕ, zero, suc, ◌≤◌, true, false, refl, arith}
use Rattle.std.proofs.lemmas.Bool.{false≢true}
use Rattle.model.specs.declared.Moment.{Moment}
use Rattle.model.specs.Moments.{moment_number, moment_of, is_before, same_moment}

pub moment_back : (t : Moment) → moment_of (moment_number t) ≡ t
moment_back Moment.Before = refl
moment_back Moment.After = refl
moment_back Moment.Raised = refl

pub moment_small : (t : Moment) → moment_number t ≤ 2
moment_small Moment.Before = omega arith
moment_small Moment.After = omega arith
moment_small Moment.Raised = omega arith

pub moment_there : (n : ℕ) → n ≤ 2 → moment_number (moment_of n) ≡ n
moment_there zero h = refl
moment_there (suc zero) h = refl
moment_there (suc (suc n)) h = omega arith

pub same_moment_true : (t u : Moment) → same_moment t u ≡ true → t ≡ u
same_moment_true Moment.Before Moment.Before h = refl
same_moment_true Moment.Before Moment.After h = absurd (false≢true h)
same_moment_true Moment.Before Moment.Raised h = absurd (false≢true h)
same_moment_true Moment.After Moment.Before h = absurd (false≢true h)
same_moment_true Moment.After Moment.After h = refl
same_moment_true Moment.After Moment.Raised h = absurd (false≢true h)
same_moment_true Moment.Raised Moment.Before h = absurd (false≢true h)
same_moment_true Moment.Raised Moment.After h = absurd (false≢true h)
same_moment_true Moment.Raised Moment.Raised h = refl

pub is_before_not : (t : Moment) → (t ≡ Moment.Before → ⊥) → is_before t ≡ false
is_before_not Moment.Before h = absurd (h refl)
is_before_not Moment.After h = refl
is_before_not Moment.Raised h = refl
