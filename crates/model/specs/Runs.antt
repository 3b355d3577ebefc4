-- Runs, their calls and answers, the events in them, and what a policy accepts.
use Rattle.std.specs.Prelude.{◌≡◌, ℕ, Bool, true, false, cond, List, [], ◌∷◌, ◌++◌, ℤ, pos, Some, None, Option, ◌==◌}
use Rattle.model.specs.declared.Event.{Event}
use Rattle.model.specs.Policy.{Automaton}
use Rattle.model.specs.declared.Moment.{Moment}
use Rattle.model.specs.declared.Outcome.{Outcome}
use Rattle.model.specs.Moments.{is_before}
use Rattle.model.specs.Machine.{Applet, Machine, Stepped, step, answer}

-- one step of a thread, or one answer to it, normal or raised
pub data Act : Type 0 where
  step_of : ℕ → Act
  answer_to : ℕ → Bool → ℤ → Act

-- what the host sees
pub data Seen : Type 0 where
  call : ℕ → ℕ → List ℤ → Seen
  reply : ℕ → Bool → ℤ → Seen

-- a call that thread t hands out is seen
abbrev pub seen_of : ℕ → Outcome → List Seen
seen_of t Outcome.Moved = []
seen_of t (Outcome.Called k xs) = Seen.call t k xs ∷ []
seen_of t (Outcome.Ended n) = []
seen_of t Outcome.Stop = []

-- a refused act leaves the machine
abbrev pub after : Machine → Stepped → Machine
after m (Stepped.done n o) = n
after m (Stepped.refused r) = m

-- what is seen of a step
abbrev pub shown : ℕ → Stepped → List Seen
shown t (Stepped.done n o) = seen_of t o
shown t (Stepped.refused r) = []

-- an answer that worked is seen
abbrev pub replied : ℕ → Bool → ℤ → Stepped → List Seen
replied t b v (Stepped.done n o) = Seen.reply t b v ∷ []
replied t b v (Stepped.refused r) = []

-- the machine after an act
abbrev pub act : Applet → Machine → Act → Machine
act p m (Act.step_of t) = after m (step p m t)
act p m (Act.answer_to t b v) = after m (answer p m t b v)

-- what the host sees of an act
abbrev pub sees : Applet → Machine → Act → List Seen
sees p m (Act.step_of t) = shown t (step p m t)
sees p m (Act.answer_to t b v) = replied t b v (answer p m t b v)

-- the machine after a list of acts
abbrev pub run : Applet → Machine → List Act → Machine
run p m [] = m
run p m (x ∷ xs) = run p (act p m x) xs

-- what the host sees of a list of acts
abbrev pub trace : Applet → Machine → List Act → List Seen
trace p m [] = []
trace p m (x ∷ xs) = sees p m x ++ trace p (act p m x) xs

-- a call that was handed out and has no answer yet
pub record Open : Type 0 where
  pub number : ℕ
  pub args : List ℤ

-- after a normal answer, or raised
abbrev pub answer_moment : Bool → Moment
answer_moment true = Moment.Raised
answer_moment false = Moment.After

-- the open calls, by thread, with that of thread t set
abbrev pub now_open : ℕ → Option Open → (ℕ → Option Open) → ℕ → Option Open
now_open t c o u = cond (u == t) c (o u)

-- the event of an answer to a call: after or raised, with the call's own arguments
abbrev pub reply_event : (ℕ → Bool) → Option Open → Bool → ℤ → List Event
reply_event w None b v = []
reply_event w (Some c) b v = cond (w c.number) (record { moment = answer_moment b; call = c.number; args = c.args; answer = v } ∷ []) []

-- the events in what was seen, o being the open calls
abbrev pub events : (ℕ → Bool) → (ℕ → Option Open) → List Seen → List Event
events w o [] = []
events w o (Seen.call t k xs ∷ ss) =
    cond (w k) (record { moment = Moment.Before; call = k; args = xs; answer = pos 0 } ∷ []) [] ++ events w (now_open t (Some (record { number = k; args = xs })) o) ss
events w o (Seen.reply t b v ∷ ss) = reply_event w (o t) b v ++ events w (now_open t None o) ss

-- an event that is not taken is no before event, and none follows it
abbrev pub AcceptRest : Automaton → List Event → Bool → Option (List ℤ) → (List ℤ → Type 0) → Type 0
AcceptRest A es before None rest = cond before ⊥ (es ≡ [])
AcceptRest A es before (Some c) rest = rest c

-- the policy accepts the events, stepping from cells c
abbrev pub Accepts : Automaton → List ℤ → List Event → Type 0
Accepts A c [] = Unit {0}
Accepts A c (e ∷ es) = AcceptRest A es (is_before e.moment) (A.step e c) (λ d. Accepts A d es)

-- at the start no call is open
abbrev pub none_open : ℕ → Option Open
none_open t = None
