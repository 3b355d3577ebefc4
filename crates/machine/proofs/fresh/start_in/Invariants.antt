use Rattle.std.proofs.Common.{◌≡◌, ℕ, ◌<◌, length, get_or}
use Rattle.model.specs.Machine.{new_thread}
use Rattle.machine.specs.Views.{thread_of, no_thread}
use Rattle.machine.proofs.fresh.start_in.Given as goal

-- the threads so far start in their methods
abbrev pub invariant-loop-i : goal.invariant-loop-i
invariant-loop-i l = (length l.threads ≡ 8) × ((k : ℕ) → k < l.i → thread_of (get_or l.threads k no_thread) ≡ new_thread (get_or l.entries k 0))
