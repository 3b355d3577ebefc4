-- The machine: its state, a step of one thread, an answer to one.
use Rattle.std.specs.Prelude.{ℕ, ◌+◌, ◌-◌, Bool, true, false, cond, List, [], ◌∷◌, ◌++◌, map, length, take, drop, replicate, ℤ, pos, ◌+ℤ◌, ◌-ℤ◌, Some, None, Option, ◌==◌, int_lt, nat_lt, slice_index_or, slice_set}
use Rattle.std.specs.Int.{int_wrap, w32}
use Rattle.model.specs.declared.Refusal.{Refusal}
use Rattle.model.specs.declared.Outcome.{Outcome}
use Rattle.model.specs.declared.Status.{Status}
use Rattle.model.specs.declared.Reason.{Reason}
use Rattle.model.specs.declared.Reason.TheVariants.{Finished, TooDeep, NotHolder}
use Rattle.model.specs.declared.Reply.{Reply}
use Rattle.model.specs.declared.Reply.TheVariants.{Normal, Raised}
use Rattle.model.specs.declared.Own.{Own}
use Rattle.model.specs.declared.Instr.{Instr}
use Rattle.model.specs.Policy.{eqZ, flag, Turn, turn}
use Rattle.model.specs.declared.Refusal.TheVariants.{NoThread, NotAwaiting, StillAwaiting, ThreadEnded, MachineStopped, LockHeld}

-- what is loaded: the method in which each thread starts, the start values of the cells, and the code of each method
pub record Applet : Type 0 where
  pub entries : List ℕ
  pub starts : List ℤ
  pub methods : List (List Instr)

-- where a call of a method stands, and its registers r0 to r7
pub record Frame : Type 0 where
  pub method : ℕ
  pub index : ℕ
  pub regs : List ℤ

-- the topmost frame, and those below it
pub record Thread : Type 0 where
  pub status : Status
  pub top : Frame
  pub callers : List Frame

-- the threads, g, s, m, a0 to a4, the lock's holder, and whether the machine has stopped
pub record Machine : Type 0 where
  pub threads : List Thread
  pub shared : List ℤ
  pub cells : List ℤ
  pub scratch : List ℤ
  pub args : List ℤ
  pub holder : Option ℕ
  pub halted : Bool

-- the number of the reason for which a thread ended
abbrev pub reason_number : Reason → ℕ
reason_number Finished = 0
reason_number TooDeep = 1
reason_number NotHolder = 2

-- a step or an answer that worked, or its refusal
pub data Stepped : Type 0 where
  done : Machine → Outcome → Stepped
  refused : Refusal → Stepped

-- n zeros
abbrev pub zeros : ℕ → List ℤ
zeros n = replicate n (pos 0)

-- a thread at index 0 of its method
abbrev pub new_thread : ℕ → Thread
new_thread e = record { status = Status.Ready; top = record { method = e; index = 0; regs = zeros 8 }; callers = [] }

-- the machine of an applet that was just loaded
abbrev pub fresh : Applet → Machine
fresh p = record {
  threads = map new_thread p.entries;
  shared = zeros 64;
  cells = p.starts ++ zeros (32 - length p.starts);
  scratch = zeros 8;
  args = zeros 5;
  holder = None;
  halted = false;
}

-- the instruction at which a frame stands
abbrev pub fetch : Applet → Frame → Instr
fetch p f = slice_index_or (slice_index_or p.methods f.method []) f.index (Instr.Own Own.End)

-- thread t
abbrev pub thread : Machine → ℕ → Thread
thread m t = slice_index_or m.threads t (new_thread 0)

-- register x
abbrev pub reg : Frame → ℕ → ℤ
reg f x = slice_index_or f.regs x (pos 0)

-- the frame at index i
abbrev pub goto : Frame → ℕ → Frame
goto f i = record { method = f.method; index = i; regs = f.regs }

-- the frame behind its instruction, with v in register x
abbrev pub write : Frame → ℕ → ℤ → Frame
write f x v = record { method = f.method; index = f.index + 1; regs = slice_set f.regs x v }

-- the thread with another topmost frame
abbrev pub with_top : Thread → Frame → Thread
with_top u f = record { status = u.status; top = f; callers = u.callers }

-- the thread with another status
abbrev pub with_status : Thread → Status → Thread
with_status u s = record { status = s; top = u.top; callers = u.callers }

-- the thread behind its instruction
abbrev pub onward : Thread → Thread
onward u = with_top u (goto u.top (u.top.index + 1))

-- the machine with u as its thread t
abbrev pub with_thread : Machine → ℕ → Thread → Machine
with_thread m t u = record {
  threads = slice_set m.threads t u;
  shared = m.shared;
  cells = m.cells;
  scratch = m.scratch;
  args = m.args;
  holder = m.holder;
  halted = m.halted;
}

-- the machine with other shared numbers
abbrev pub with_shared : Machine → List ℤ → Machine
with_shared m g = record { threads = m.threads; shared = g; cells = m.cells; scratch = m.scratch; args = m.args; holder = m.holder; halted = m.halted }

-- the machine with other cells and scratch numbers
abbrev pub with_cells : Machine → List ℤ → List ℤ → Machine
with_cells m s c = record { threads = m.threads; shared = m.shared; cells = s; scratch = c; args = m.args; holder = m.holder; halted = m.halted }

-- the machine with other a0 to a4
abbrev pub with_args : Machine → List ℤ → Machine
with_args m a = record { threads = m.threads; shared = m.shared; cells = m.cells; scratch = m.scratch; args = a; holder = m.holder; halted = m.halted }

-- the machine with another holder of the lock
abbrev pub with_holder : Machine → Option ℕ → Machine
with_holder m h = record { threads = m.threads; shared = m.shared; cells = m.cells; scratch = m.scratch; args = m.args; holder = h; halted = m.halted }

-- the machine, stopped
abbrev pub halt : Machine → Machine
halt m = record { threads = m.threads; shared = m.shared; cells = m.cells; scratch = m.scratch; args = m.args; holder = m.holder; halted = true }

-- what an instruction of the applet's own does: to the thread that runs it and to the shared numbers, and what it says
pub record Local : Type 0 where
  pub after : Thread
  pub shared : List ℤ
  pub says : Outcome

-- the thread goes on at another frame
abbrev pub on : Thread → List ℤ → Frame → Local
on u g f = record { after = with_top u f; shared = g; says = Outcome.Moved }

-- the thread ends with a reason
abbrev pub finish : Thread → List ℤ → Reason → Local
finish u g r = record { after = with_status u Status.Ended; shared = g; says = Outcome.Ended r }

-- r0 to the caller's r0, on after its CALL; in the first frame the thread ends
abbrev pub return : Thread → List ℤ → List Frame → Local
return u g [] = finish u g Finished
return u g (f ∷ fs) = record { after = record { status = u.status; top = write f 0 (reg u.top 0); callers = fs }; shared = g; says = Outcome.Moved }

-- a new frame: r0 to r3 copied, r4 to r7 zero
abbrev pub enter : Thread → ℕ → Thread
enter u n = record { status = u.status; top = record { method = n; index = 0; regs = take 4 u.top.regs ++ zeros 4 }; callers = u.top ∷ u.callers }

-- CALL, where there is room for a frame, and where there is none
abbrev pub call_in : Bool → Thread → List ℤ → ℕ → Local
call_in true u g n = record { after = enter u n; shared = g; says = Outcome.Moved }
call_in false u g n = finish u g TooDeep

-- the instructions of the applet's own
abbrev pub local : Own → Thread → List ℤ → Local
local (Own.Set x y) u g = on u g (write u.top x y)
local (Own.Mov x y) u g = on u g (write u.top x (reg u.top y))
local (Own.Add x y) u g = on u g (write u.top x (int_wrap w32 (reg u.top x +ℤ reg u.top y)))
local (Own.Sub x y) u g = on u g (write u.top x (int_wrap w32 (reg u.top x -ℤ reg u.top y)))
local (Own.Lt x y) u g = on u g (write u.top x (flag (int_lt (reg u.top x) (reg u.top y))))
local (Own.Eq x y) u g = on u g (write u.top x (flag (eqZ (reg u.top x) (reg u.top y))))
local (Own.Get x y) u g = on u g (write u.top x (slice_index_or g y (pos 0)))
local (Own.Put x y) u g = on u (slice_set g y (reg u.top x)) (goto u.top (u.top.index + 1))
local (Own.Jump n) u g = on u g (goto u.top n)
local (Own.Brz x n) u g = on u g (goto u.top (cond (eqZ (reg u.top x) (pos 0)) n (u.top.index + 1)))
local (Own.Call n) u g = call_in (nat_lt (length u.callers) 15) u g n
local Own.Ret u g = return u g u.callers
local (Own.Host k n) u g = record { after = with_status u Status.Awaiting; shared = g; says = Outcome.Called k (take 4 u.top.regs) }
local Own.End u g = finish u g Finished

-- a step by an instruction of the applet's own
abbrev pub own_step : Machine → ℕ → Local → Stepped
own_step m t l = Stepped.done (with_shared (with_thread m t l.after) l.shared) l.says

-- a step by a test
abbrev pub test_step : Machine → ℕ → Thread → Turn → Stepped
test_step m t u (Turn.went n s c) = Stepped.done (with_cells (with_thread m t (with_top u (goto u.top (u.top.index + 1 + n)))) s c) Outcome.Moved
test_step m t u Turn.halts = Stepped.done (halt m) Outcome.Stop

-- LOCK: take the lock, copy r0 to r3 into a0 to a3
abbrev pub lock_step : Option ℕ → Machine → ℕ → Thread → Stepped
lock_step (Some h) m t u = Stepped.refused LockHeld
lock_step None m t u = Stepped.done (with_holder (with_args (with_thread m t (onward u)) (take 4 u.top.regs ++ drop 4 m.args)) (Some t)) Outcome.Moved

-- thread t holds the lock
abbrev pub holds : Option ℕ → ℕ → Bool
holds None t = false
holds (Some h) t = h == t

-- UNLOCK by the holder: free the lock; by another thread: that thread ends
abbrev pub unlock_step : Bool → Machine → ℕ → Thread → Stepped
unlock_step true m t u = Stepped.done (with_holder (with_thread m t (onward u)) None) Outcome.Moved
unlock_step false m t u = own_step m t (finish u m.shared NotHolder)

-- one instruction
abbrev pub run_instr : Instr → Machine → ℕ → Thread → Stepped
run_instr (Instr.Own i) m t u = own_step m t (local i u m.shared)
run_instr (Instr.Lock k) m t u = lock_step m.holder m t u
run_instr Instr.Unlock m t u = unlock_step (holds m.holder t) m t u
run_instr (Instr.Test i) m t u = test_step m t u (turn m.args i m.cells m.scratch)

-- a thread that is ready runs its instruction
abbrev pub by_status : Applet → Machine → ℕ → Thread → Status → Stepped
by_status p m t u Status.Ready = run_instr (fetch p u.top) m t u
by_status p m t u Status.Awaiting = Stepped.refused StillAwaiting
by_status p m t u Status.Ended = Stepped.refused ThreadEnded

-- only a thread that there is, on a machine that has not stopped
abbrev pub admit : Bool → Bool → Stepped → Stepped
admit false h s = Stepped.refused NoThread
admit true true s = Stepped.refused MachineStopped
admit true false s = s

-- step(thread)
abbrev pub step : Applet → Machine → ℕ → Stepped
step p m t = admit (nat_lt t (length m.threads)) m.halted (by_status p m t (thread m t) (thread m t).status)

-- where a HOST that is answered as raised goes on
abbrev pub raised_target : Instr → ℕ
raised_target (Instr.Own (Own.Host k n)) = n
raised_target (Instr.Own (Own.Set x y)) = 0
raised_target (Instr.Own (Own.Mov x y)) = 0
raised_target (Instr.Own (Own.Add x y)) = 0
raised_target (Instr.Own (Own.Sub x y)) = 0
raised_target (Instr.Own (Own.Lt x y)) = 0
raised_target (Instr.Own (Own.Eq x y)) = 0
raised_target (Instr.Own (Own.Get x y)) = 0
raised_target (Instr.Own (Own.Put x y)) = 0
raised_target (Instr.Own (Own.Jump x)) = 0
raised_target (Instr.Own (Own.Brz x y)) = 0
raised_target (Instr.Own (Own.Call x)) = 0
raised_target (Instr.Own Own.Ret) = 0
raised_target (Instr.Own Own.End) = 0
raised_target (Instr.Lock x) = 0
raised_target Instr.Unlock = 0
raised_target (Instr.Test x) = 0

-- an answer is a raised one, and its value
abbrev pub is_raised : Reply → Bool
is_raised (Normal v) = false
is_raised (Raised v) = true

abbrev pub reply_value : Reply → ℤ
reply_value (Normal v) = v
reply_value (Raised v) = v

-- a thread with its answer v, behind the HOST when normal, at its target when raised
abbrev pub resume : Applet → Thread → Bool → ℤ → Thread
resume p u raised v = record {
  status = Status.Ready;
  top = record { method = u.top.method; index = cond raised (raised_target (fetch p u.top)) (u.top.index + 1); regs = slice_set u.top.regs 0 v };
  callers = u.callers;
}

-- a thread that awaits takes the answer, into a4 too if it holds the lock
abbrev pub answered : Applet → Machine → ℕ → Thread → Bool → ℤ → Status → Stepped
answered p m t u raised v Status.Awaiting =
    Stepped.done (with_args (with_thread m t (resume p u raised v)) (cond (holds m.holder t) (slice_set m.args 4 v) m.args)) Outcome.Moved
answered p m t u raised v Status.Ready = Stepped.refused NotAwaiting
answered p m t u raised v Status.Ended = Stepped.refused NotAwaiting

-- answer(thread, normal or raised, value)
abbrev pub answer : Applet → Machine → ℕ → Bool → ℤ → Stepped
answer p m t raised v = admit (nat_lt t (length m.threads)) m.halted (answered p m t (thread m t) raised v (thread m t).status)
