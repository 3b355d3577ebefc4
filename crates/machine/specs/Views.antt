-- What the stored machine means, in the model's terms.
use Rattle.std.specs.Prelude.{◌≡◌, ℕ, zero, suc, ◌<◌, min, Bool, true, false, cond, List, [], ◌∷◌, map, length, take, ℤ, Some, None, Ok, Err, Option, Result, nat_lt, slice_index_or, slice_set}
use Rattle.std.specs.Borrow.{Bor}
use Rattle.model.specs.Policy.{Turn}
use Rattle.model.specs.declared.Outcome.{Outcome}
use Rattle.model.specs.declared.Refusal.{Refusal}
use Rattle.model.specs.declared.Refusal.TheVariants.{NoThread, MachineStopped, StillAwaiting, NotAwaiting, ThreadEnded}
use Rattle.model.specs.Machine as model
use Rattle.model.specs.declared.Status.{Status}
use Rattle.model.specs.declared.Own.{Own}
use Rattle.model.specs.declared.Instr.{Instr}
use Rattle.machine.specs.declared.frames.Stand.{Stand}
use Rattle.machine.specs.declared.frames.Frame.{Frame}
use Rattle.machine.specs.declared.frames.Callers.{Callers}
use Rattle.machine.specs.declared.threads.Thread.{Thread}
use Rattle.machine.specs.declared.states.State.{State}

-- how many instructions a test passes over; none if it stops the machine
abbrev pub passes : Turn → Option ℕ
passes (Turn.went n s m) = Some n
passes Turn.halts = None

-- the cells after a test
abbrev pub cells_after : List ℤ → Turn → List ℤ
cells_after d (Turn.went n s m) = s
cells_after d Turn.halts = d

-- the scratch numbers after a test
abbrev pub scratch_after : List ℤ → Turn → List ℤ
scratch_after d (Turn.went n s m) = m
scratch_after d Turn.halts = d

-- an index from which a frame still has to go on behind its instruction: at most 65,535
abbrev pub waiting : ℕ → ℕ
waiting i = min i 65535

-- the index of a thread's topmost frame
abbrev pub index_of : Status → ℕ → ℕ
index_of Status.Ready i = i
index_of Status.Awaiting i = waiting i
index_of Status.Ended i = i

-- past the end of the callers
abbrev pub no_frame : Frame
no_frame = record { method = 0; index = 0; regs = [] }

-- a frame that does not wait
abbrev pub frame_of : Frame → model.Frame
frame_of f = record { method = f.method; index = f.index; regs = f.regs }

-- a caller
abbrev pub caller_of : Frame → model.Frame
caller_of f = record { method = f.method; index = waiting f.index; regs = f.regs }

-- the first n frames, the last of them first
abbrev pub first_callers : ℕ → List Frame → List model.Frame
first_callers zero fs = []
first_callers (suc n) fs = caller_of (slice_index_or fs n no_frame) ∷ first_callers n fs

-- the callers, at most 15
abbrev pub callers_of : Callers → List model.Frame
callers_of c = first_callers (min c.depth 15) c.frames

-- a thread
abbrev pub thread_of : Thread → model.Thread
thread_of u = record {
  status = u.status;
  top = record { method = u.top.method; index = index_of u.status u.top.index; regs = u.top.regs };
  callers = callers_of u.callers;
}

-- a thread that may run an instruction: it is ready, and its index is one of a method's
pub record Runs (u : Thread) : Type 0 where
  pub ready : u.status ≡ Status.Ready
  pub low : u.top.index < 65536

-- past the end of the threads
abbrev pub no_thread : Thread
no_thread = record { status = Status.Ready; top = no_frame; callers = record { depth = 0; frames = [] } }

-- the first n threads
abbrev pub threads_of : ℕ → List Thread → List model.Thread
threads_of n us = map thread_of (take n us)

-- the machine
abbrev pub machine_of : State → model.Machine
machine_of m = record {
  threads = threads_of m.count m.threads;
  shared = m.shared;
  cells = m.cells;
  scratch = m.scratch;
  args = m.args;
  holder = m.holder;
  halted = m.halted;
}

-- what a step or an answer says
abbrev pub said : model.Stepped → Result Outcome Refusal
said (model.Stepped.done n o) = Ok o
said (model.Stepped.refused r) = Err r

-- thread t as it is stored
abbrev pub stored : State → ℕ → Thread
stored m t = slice_index_or m.threads t no_thread

-- thread t is there and ready
pub record Ready (m : State) (t : ℕ) : Type 0 where
  pub room : t < 8
  pub there : t < m.count
  pub ready : (stored m t).status ≡ Status.Ready

-- thread t is there and may run an instruction
pub record Steps (m : State) (t : ℕ) : Type 0 where
  pub room : t < 8
  pub there : t < m.count
  pub runs : Runs (stored m t)

-- of a thread that there is, on a machine that has not stopped
abbrev pub admitted : {X : Type 0} → Bool → Bool → Result X Refusal → Result X Refusal
admitted false h r = Err NoThread
admitted true true r = Err MachineStopped
admitted true false r = r

-- where a thread stands
abbrev pub stand_of : model.Thread → Stand
stand_of u = record { method = u.top.method; index = u.top.index }

-- a thread that can be stepped
abbrev pub ready_by : model.Thread → Status → Result Stand Refusal
ready_by u Status.Ready = Ok (stand_of u)
ready_by u Status.Awaiting = Err StillAwaiting
ready_by u Status.Ended = Err ThreadEnded

abbrev pub ready_of : model.Machine → ℕ → Result Stand Refusal
ready_of m t = admitted (nat_lt t (length m.threads)) m.halted (ready_by (model.thread m t) (model.thread m t).status)

-- a thread that awaits an answer
abbrev pub awaiting_by : model.Thread → Status → Result Stand Refusal
awaiting_by u Status.Ready = Err NotAwaiting
awaiting_by u Status.Awaiting = Ok (stand_of u)
awaiting_by u Status.Ended = Err NotAwaiting

abbrev pub awaiting_of : model.Machine → ℕ → Result Stand Refusal
awaiting_of m t = admitted (nat_lt t (length m.threads)) m.halted (awaiting_by (model.thread m t) (model.thread m t).status)

-- a thread that goes on at an index with v in r0
abbrev pub going_on : model.Thread → ℕ → ℤ → model.Thread
going_on u i v = record { status = Status.Ready; top = record { method = u.top.method; index = i; regs = slice_set u.top.regs 0 v }; callers = u.callers }

-- thread t goes on with its answer
abbrev pub resumed : model.Machine → ℕ → ℕ → ℤ → model.Machine
resumed m t i v = model.with_args (model.with_thread m t (going_on (model.thread m t) i v)) (cond (model.holds m.holder t) (slice_set m.args 4 v) m.args)

-- the instruction at which a thread stands
abbrev pub fetched : model.Applet → Stand → Instr
fetched p s = slice_index_or (slice_index_or p.methods s.method []) s.index (Instr.Own Own.End)

-- a thread that is looked at
abbrev pub shown_thread : Option (Bor Thread) → Option model.Thread
shown_thread None = None
shown_thread (Some u) = Some (thread_of u.now)
