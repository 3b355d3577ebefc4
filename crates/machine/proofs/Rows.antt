-- Threads in the list of them, and the machine after a step of one.
use Rattle.std.proofs.Common.{◌≡◌, ℕ, zero, suc, ◌+◌, ◌<◌, ◌≤◌, min, Bool, true, false, ltb, List, [], ◌∷◌, ◌++◌, length, get_or, take, drop, set, ℤ, IfOk, Some, None, Ok, Err, Result, sym, refl, ap, ◌∙◌, arith}
use Rattle.model.specs.declared.Refusal.{Refusal}
use Rattle.machine.specs.declared.frames.Stand.{Stand}
use Rattle.model.specs.Policy.{Turn}
use Rattle.model.specs.Machine as model
use Rattle.model.specs.Machine.{holds, lock_step, unlock_step, test_step, own_step, onward, with_status, with_top, goto, reg}
use Rattle.model.specs.Runs.{after}
use Rattle.model.specs.declared.Outcome.{Outcome}
use Rattle.model.specs.declared.Status.{Status}
use Rattle.applet.specs.Applets.{nth}
use Rattle.machine.specs.declared.threads.Thread.{Thread}
use Rattle.machine.specs.declared.states.State.{State}
use Rattle.machine.specs.Views.{no_thread, thread_of, threads_of, machine_of, stored, said, passes, cells_after, scratch_after, admitted, ready_by, ready_of, awaiting_by, awaiting_of, going_on, resumed}

-- thread t of the first n
pub thread_at : (n t : ℕ) (us : List Thread) → t < n → t < length us → get_or (threads_of n us) t (model.new_thread 0) ≡ thread_of (get_or us t no_thread)
thread_at zero t us h l = absurd (omega arith)
thread_at (suc n) t [] h l = absurd (omega arith)
thread_at (suc n) zero (u ∷ us) h l = refl
thread_at (suc n) (suc t) (u ∷ us) h l = thread_at n t us (omega arith) (omega arith)

-- how many threads there are
pub threads_many : (n : ℕ) (us : List Thread) → length (threads_of n us) ≡ min n (length us)
threads_many zero us = sym (omega arith)
threads_many (suc n) [] = sym (omega arith)
threads_many (suc n) (u ∷ us) = let h = threads_many n us in omega arith

pub nth_thread : (n t : ℕ) (us : List Thread) → t < n → t < length us → Some (thread_of (get_or us t no_thread)) ≡ nth (threads_of n us) t
nth_thread zero t us h l = absurd (omega arith)
nth_thread (suc n) t [] h l = absurd (omega arith)
nth_thread (suc n) zero (u ∷ us) h l = refl
nth_thread (suc n) (suc t) (u ∷ us) h l = nth_thread n t us (omega arith) (omega arith)

pub nth_past : {X : Type 0} (xs : List X) (i : ℕ) → length xs ≤ i → None ≡ nth xs i
nth_past [] i h = refl
nth_past (x ∷ xs) zero h = absurd (omega arith)
nth_past (x ∷ xs) (suc i) h = nth_past xs i (omega arith)

-- another thread in the place of thread t
pub thread_put : (n t : ℕ) (us : List Thread) (u : Thread) → threads_of n (set us t u) ≡ set (threads_of n us) t (thread_of u)
thread_put zero t us u = refl
thread_put (suc n) t [] u = refl
thread_put (suc n) zero (v ∷ us) u = refl
thread_put (suc n) (suc t) (v ∷ us) u = ap (λ (r : List model.Thread). thread_of v ∷ r) (thread_put n t us u)

-- what holds of the value in an Ok
pub made_to : {X E : Type 0} (P Q : X → Type 0) (r : Result X E) → ((x : X) → P x → Q x) → IfOk r P → IfOk r Q
made_to P Q (Ok x) f h = f x h
made_to P Q (Err e) f h = tt

-- what is admitted goes on
goes : {X : Type 0} (b h : Bool) (r : Result X Refusal) → ◌≡◌ {A = Result (Unit {0}) Refusal} (Ok tt) (admitted b h (Ok tt)) → r ≡ admitted b h r
goes true true r e = absurd (let z : ◌≡◌ {A = ℕ} 0 1 = cc in omega arith)
goes true false r e = refl
goes false h r e = absurd (let z : ◌≡◌ {A = ℕ} 0 1 = cc in omega arith)

module _ (m : State) (t : ℕ) (there : t < m.count) (room : t < length m.threads) where
  abbrev now_thread : model.Thread
  now_thread = model.thread (machine_of m) t

  pub at : now_thread ≡ thread_of (stored m t)
  at = thread_at m.count t m.threads there room

  -- the threads, with u in the place of thread t
  placed : (u : Thread) (v : model.Thread) → thread_of u ≡ v → threads_of m.count (set m.threads t u) ≡ set (threads_of m.count m.threads) t v
  placed u v h = thread_put m.count t m.threads u ∙ ap (set (threads_of m.count m.threads) t) h

  -- the state with u as thread t
  abbrev with_stored : Thread → State
  with_stored u = record { threads = set m.threads t u; count = m.count; shared = m.shared; cells = m.cells; scratch = m.scratch; args = m.args; holder = m.holder; halted = m.halted }

  pub ran_own : (u : Thread) (g : List ℤ) (l : model.Thread → model.Local) → thread_of u ≡ (l (thread_of (stored m t))).after → g ≡ (l (thread_of (stored m t))).shared →
      machine_of (record { threads = set m.threads t u; count = m.count; shared = g; cells = m.cells; scratch = m.scratch; args = m.args; holder = m.holder; halted = m.halted }) ≡
      after (machine_of m) (own_step (machine_of m) t (l now_thread))
  ran_own u g l h k =
      let p = placed u (l now_thread).after (h ∙ sym (ap (λ (v : model.Thread). (l v).after) at)) in
      let q = k ∙ sym (ap (λ (v : model.Thread). (l v).shared) at) in
      λ i. record { threads = p i; shared = q i; cells = m.cells; scratch = m.scratch; args = m.args; holder = m.holder; halted = m.halted }

  pub unlocked : (u : Thread) → holds m.holder t ≡ true → thread_of u ≡ onward (thread_of (stored m t)) →
      machine_of (record { threads = set m.threads t u; count = m.count; shared = m.shared; cells = m.cells; scratch = m.scratch; args = m.args; holder = None; halted = m.halted }) ≡
      after (machine_of m) (unlock_step (holds m.holder t) (machine_of m) t now_thread)
  unlocked u b h =
      let p = placed u (onward now_thread) (h ∙ sym (ap onward at)) in
      rw b (λ i. record { threads = p i; shared = m.shared; cells = m.cells; scratch = m.scratch; args = m.args; holder = None; halted = m.halted })

  pub not_unlocked : (u : Thread) → holds m.holder t ≡ false → thread_of u ≡ with_status (thread_of (stored m t)) Status.Ended →
      machine_of (with_stored u) ≡ after (machine_of m) (unlock_step (holds m.holder t) (machine_of m) t now_thread)
  not_unlocked u b h =
      let p = placed u (with_status now_thread Status.Ended) (h ∙ sym (ap (λ (v : model.Thread). with_status v Status.Ended) at)) in
      rw b (λ i. record { threads = p i; shared = m.shared; cells = m.cells; scratch = m.scratch; args = m.args; holder = m.holder; halted = m.halted })

  pub locked : (u : Thread) (r a : List ℤ) → m.holder ≡ None → thread_of u ≡ onward (thread_of (stored m t)) → r ≡ take 4 (stored m t).top.regs → a ≡ r ++ drop 4 m.args →
      machine_of (record { threads = set m.threads t u; count = m.count; shared = m.shared; cells = m.cells; scratch = m.scratch; args = a; holder = Some t; halted = m.halted }) ≡
      after (machine_of m) (lock_step m.holder (machine_of m) t now_thread)
  locked u r a n h e f =
      let p = placed u (onward now_thread) (h ∙ sym (ap onward at)) in
      let q : a ≡ take 4 now_thread.top.regs ++ drop 4 m.args = rw (f, e, at) in
      rw n (λ i. record { threads = p i; shared = m.shared; cells = m.cells; scratch = m.scratch; args = q i; holder = Some t; halted = m.halted })

  pub tested : (u : Thread) (n : ℕ) (s c : List ℤ) (r : Turn) → Some n ≡ passes r → s ≡ cells_after m.cells r → c ≡ scratch_after m.scratch r →
      thread_of u ≡ with_top (thread_of (stored m t)) (goto (thread_of (stored m t)).top ((thread_of (stored m t)).top.index + 1 + n)) →
      (Ok Outcome.Moved ≡ said (test_step (machine_of m) t now_thread r)) ×
      (machine_of (record { threads = set m.threads t u; count = m.count; shared = m.shared; cells = s; scratch = c; args = m.args; holder = m.holder; halted = m.halted }) ≡
      after (machine_of m) (test_step (machine_of m) t now_thread r))
  tested u n s c (Turn.went k x y) e f g h =
      let z : n ≡ k = cc in
      let p = placed u (with_top now_thread (goto now_thread.top (now_thread.top.index + 1 + k))) (rw (at, ← z) h) in
      (refl, λ i. record { threads = p i; shared = m.shared; cells = f i; scratch = g i; args = m.args; holder = m.holder; halted = m.halted })
  tested u n s c Turn.halts e f g h = absurd (let z : ◌≡◌ {A = ℕ} 0 1 = cc in omega arith)

  abbrev Admitted : Type 0
  Admitted = ◌≡◌ {A = Result (Unit {0}) Refusal} (Ok tt) (admitted (ltb t (length (machine_of m).threads)) m.halted (Ok tt))

  pub ready_at : (r : Result Stand Refusal) → r ≡ ready_by (thread_of (stored m t)) (stored m t).status → Admitted → r ≡ ready_of (machine_of m) t
  ready_at r h a = h ∙ sym (ap (λ (u : model.Thread). ready_by u u.status) at) ∙ goes (ltb t (length (machine_of m).threads)) m.halted _ a

  pub awaiting_at : (r : Result Stand Refusal) → r ≡ awaiting_by (thread_of (stored m t)) (stored m t).status → Admitted → r ≡ awaiting_of (machine_of m) t
  awaiting_at r h a = h ∙ sym (ap (λ (u : model.Thread). awaiting_by u u.status) at) ∙ goes (ltb t (length (machine_of m).threads)) m.halted _ a

  pub resumed_held : (u : Thread) (i : ℕ) (v w : ℤ) → w ≡ v → thread_of u ≡ going_on (thread_of (stored m t)) i w → holds m.holder t ≡ true →
      machine_of (record { threads = set m.threads t u; count = m.count; shared = m.shared; cells = m.cells; scratch = m.scratch; args = set m.args 4 w; holder = m.holder; halted = m.halted }) ≡
      resumed (machine_of m) t i v
  resumed_held u i v w e h b =
      let p = placed u (going_on now_thread i v) (h ∙ ap (going_on (thread_of (stored m t)) i) e ∙ sym (ap (λ (x : model.Thread). going_on x i v) at)) in
      rw (b, e) (λ i. record { threads = p i; shared = m.shared; cells = m.cells; scratch = m.scratch; args = set m.args 4 v; holder = m.holder; halted = m.halted })

  pub resumed_free : (u : Thread) (i : ℕ) (v w : ℤ) → w ≡ v → thread_of u ≡ going_on (thread_of (stored m t)) i w → holds m.holder t ≡ false → machine_of (with_stored u) ≡ resumed (machine_of m) t i v
  resumed_free u i v w e h b =
      let p = placed u (going_on now_thread i v) (h ∙ ap (going_on (thread_of (stored m t)) i) e ∙ sym (ap (λ (x : model.Thread). going_on x i v) at)) in
      rw b (λ i. record { threads = p i; shared = m.shared; cells = m.cells; scratch = m.scratch; args = m.args; holder = m.holder; halted = m.halted })
