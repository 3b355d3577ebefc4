-- What the loops count: events that a policy takes one after the other, and steps of a machine that work.
use Rattle.std.specs.Prelude.{ℕ, zero, suc, ◌+◌, Bool, true, false, cond, List, [], ◌∷◌, ℤ, pos, Ok, Err, nat_lt}
use Rattle.model.specs.declared.Moment.{Moment}
use Rattle.model.specs.declared.Outcome.{Outcome}
use Rattle.model.specs.declared.Event.{Event}
use Rattle.model.specs.Policy.{Automaton}
use Rattle.model.specs.Calls.{row_after, step_answer, starts_row}
use Rattle.model.specs.Machine.{Applet, Machine, Stepped, step, answer, zeros}
use Rattle.model.specs.Runs.{after}
use Rattle.model.specs.Fields.{Read}
use Rattle.model.specs.Files.{Loaded}
use Rattle.policy.specs.Calls.{is_taken}

-- 1 or 0
abbrev pub one_if : Bool → ℕ
one_if true = 1
one_if false = 0

-- call k before it is handed out, with a first argument
abbrev pub before_call : ℕ → ℤ → Event
before_call k v = record { moment = Moment.Before; call = k; args = v ∷ pos 0 ∷ pos 0 ∷ pos 0 ∷ []; answer = pos 0 }

-- the row behind n times the same event
abbrev pub rows : Automaton → Event → List ℤ → ℕ → List ℤ
rows A e row zero = row
rows A e row (suc n) = row_after A e (rows A e row n)

-- how many of the n events are taken
abbrev pub takes : Automaton → Event → List ℤ → ℕ → ℕ
takes A e row zero = 0
takes A e row (suc n) = takes A e row n + one_if (is_taken (step_answer A e (rows A e row n)))

-- the same, from the policy's starts in a row of 32 cells
abbrev pub takes_of : Automaton → ℕ → ℤ → ℕ → ℕ
takes_of A k v n = takes A (before_call k v) (starts_row A (zeros 32)) n

-- a step worked
abbrev pub worked : Stepped → Bool
worked (Stepped.done m o) = true
worked (Stepped.refused r) = false

-- the machine behind a step of thread t, a call being answered normally with 0
abbrev pub served : Applet → Machine → ℕ → Stepped → Machine
served p m t (Stepped.done n (Outcome.Called k xs)) = after n (answer p n t false (pos 0))
served p m t (Stepped.done n Outcome.Moved) = n
served p m t (Stepped.done n (Outcome.Ended r)) = n
served p m t (Stepped.done n Outcome.Stop) = n
served p m t (Stepped.refused r) = m

-- the thread behind thread t, of those up to the last one
abbrev pub next_of : ℕ → ℕ → ℕ
next_of last t = cond (nat_lt t last) (t + 1) 0

-- the thread whose turn is the n-th, counted from 0
abbrev pub turn_of : ℕ → ℕ → ℕ
turn_of last zero = 0
turn_of last (suc n) = next_of last (turn_of last n)

-- the machine behind n turns of the threads up to the last one
abbrev pub turned : Applet → Machine → ℕ → ℕ → Machine
turned p m last zero = m
turned p m last (suc n) =
    let k = turned p m last n in
    served p k (turn_of last n) (step p k (turn_of last n))

-- how many of the n steps work
abbrev pub works : Applet → Machine → ℕ → ℕ → ℕ
works p m last zero = 0
works p m last (suc n) = works p m last n + one_if (worked (step p (turned p m last n) (turn_of last n)))

-- the same of a file, none where it does not read
abbrev pub works_of : Read Loaded → ℕ → ℕ → ℕ
works_of (Ok l) last n = works l.applet l.machine last n
works_of (Err r) last n = 0
