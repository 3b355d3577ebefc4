-- One step or answer of the woven machine, followed by the plain one.
use Rattle.std.proofs.Common.{◌≡◌, ℕ, suc, ◌+◌, ◌<◌, Bool, true, false, cond, List, [], ◌∷◌, ◌++◌, map, length, get_or, take, drop, set, ℤ, pos, Some, None, Option, sym, refl, ap, ◌∙◌, subst, ap₂, subst₂, inl, ⊎_elim, arith, length-append, length-drop, length-set, length-take, length-take-le}
use lib.ListN.{length-map}
use lib.Seq.{set_at, drop-append-add}
use Rattle.std.proofs.lemmas.Bool.{cases_eq, eq-eqb, ne_eqb}
use Rattle.model.specs.declared.Moment.{Moment}
use Rattle.model.specs.declared.Own.{Own}
use Rattle.model.specs.declared.Test.{Test}
use Rattle.model.specs.declared.Instr.{Instr}
use Rattle.model.specs.declared.Event.{Event}
use Rattle.model.specs.Policy.{Automaton, turn, Turn, exec, Ran}
use Rattle.model.specs.declared.Outcome.{Outcome}
use Rattle.model.specs.declared.Status.{Status}
use Rattle.model.specs.Machine.{with_thread, Applet, Machine, Thread, Frame, Stepped, thread, fetch, step, answer, by_status}
use Rattle.model.specs.Machine.{run_instr, own_step, local, answered, test_step, lock_step, unlock_step, holds, resume, raised_target}
use Rattle.model.specs.Moments.{is_before}
use Rattle.model.specs.Runs.{Open, now_open, reply_event, Accepts, AcceptRest, after, shown, replied, answer_moment}
use Rattle.model.specs.Weave.{plain_applet, woven_applet, retarget, behind}
use Rattle.model.proofs.WovenCode.{unwatched_host, laid_own}
use Rattle.model.proofs.Options.{not_both, some_same}
use Rattle.model.proofs.Base.{drop-next, drop_more, exec_drop, turn_keeps, Strays, Kept, drop_tests}
use Rattle.model.proofs.Simulation.{at_thread, Setting, thr, Pass, opened, event, Owes, Accepted, blk, code, codew, to, laid, At, Callers, Free}
use Rattle.model.proofs.Simulation.{from_raised, from_after, from_host, SiteAt, Held, Lock, Tied, Sim, fetch_plain, fetch_woven, site_code}
use Rattle.model.proofs.SimulationSteps.{opens_here, opens_there, shut_there, blind, quiet_events, last_of, step_in, answer_in, unmoved, owed}
use Rattle.model.proofs.SimulationSteps.{LockNow, tied_set, lock_stays, alone, halting, both, both_answer, at_next, at_target, own_tied, Ready}
use Rattle.model.proofs.SimulationSteps.{ready_at}

module _ (A : Automaton) where
  pub owes_strays : (R : Ran) (q : Option (List ℤ)) → Owes A R q → Strays R → ⊥
  owes_strays (Ran.reached s m) q h k = k
  owes_strays Ran.stopped q h k = k
  owes_strays Ran.astray (Some d) h k = h
  owes_strays Ran.astray None h k = h

  pub owes_end : (s c : List ℤ) (q : Option (List ℤ)) → Owes A (Ran.reached s c) q → q ≡ Some (take A.width s)
  owes_end s c (Some d) h = ap Some (sym h)
  owes_end s c None h = absurd h

  pub accept_reply : (b : Bool) (q : Option (List ℤ)) (es : List Event) → Accepted A q es → AcceptRest A es (is_before (answer_moment b)) q (λ d. Accepts A d es)
  accept_reply true (Some c) es h = h
  accept_reply true None es h = h
  accept_reply false (Some c) es h = h
  accept_reply false None es h = h

pub holds_not : (ho : Option ℕ) (t : ℕ) → (ho ≡ Some t → ⊥) → holds ho t ≡ false
holds_not None t n = refl
holds_not (Some h) t n = ne_eqb h t (λ e. n (ap Some e))

pub holds_it : (ho : Option ℕ) (t : ℕ) → ho ≡ Some t → holds ho t ≡ true
holds_it ho t n = ap (λ ho. holds ho t) n ∙ eq-eqb t t refl

-- ---- the code of a site, and of a call that is not watched
module _ (E : Setting) where
  open E use {A, B, S, p}

  pub host_code : (m j x : ℕ) {k y : ℕ} {cs : List Own} → drop j (code E m) ≡ Own.Host k y ∷ cs → A.watched k ≡ false → At E m j x →
      drop x (codew E m) ≡ Instr.Own (Own.Host k (to E m y)) ∷ laid E m (x + 1) cs
  host_code m j x {k} {y} {cs} e wk a = a.here ∙ ap (laid E m x) e
      ∙ laid_own A.watched (blk E) x (Own.Host k (to E m y)) (map (retarget (to E m)) cs) (unwatched_host A.watched (blk E) k (to E m y) wk)

  pub resumed_at : (b : Bool) (m j x y : ℕ) (tp tw : ℕ) → tp ≡ y → tw ≡ to E m y → At E m (j + 1) (x + 1) → At E m (cond b tp (j + 1)) (cond b tw (x + 1))
  resumed_at true m j x y tp tw e f a = subst₂ (At E m) (sym e) (sym f) (at_target E false m y)
  resumed_at false m j x y tp tw e f a = a

  module _ {m j i k y : ℕ} {cs : List Own} (s : SiteAt E m j i k y cs) (x : ℕ) (f : drop x (codew E m) ≡ from_host E m i k y cs)
      (ix : x ≡ i + 1 + length (blk E k Moment.Before)) where
    pub site_after : drop (x + 1) (codew E m) ≡ map Instr.Test (blk E k Moment.After) ++ from_after E m i k y cs
    site_after = drop-next (codew E m) _ _ x f

    pub site_raised : drop (i + (length (blk E k Moment.Before) + (length (blk E k Moment.After) + 4))) (codew E m) ≡ map Instr.Test (blk E k Moment.Raised) ++ from_raised E m i k y cs
    site_raised =
        ap (λ n. drop n (codew E m)) (rw (length-map (blk E k Moment.After) Instr.Test) (omega arith))
        ∙ drop_more (codew E m) _ (x + 1) (length (map Instr.Test (blk E k Moment.After)) + 2) site_after
        ∙ drop-append-add (map Instr.Test (blk E k Moment.After)) (from_after E m i k y cs) 2

    pub site_next : At E m (j + 1) (x + 1 + length (blk E k Moment.After) + 2 + (length (blk E k Moment.Raised) + 2))
    site_next = record {
      here =
          ap (λ n. drop n (codew E m)) (rw (length-map (blk E k Moment.Raised) Instr.Test) (omega arith))
          ∙ drop_more (codew E m) _ (i + (length (blk E k Moment.Before) + (length (blk E k Moment.After) + 4))) (length (map Instr.Test (blk E k Moment.Raised)) + 2) site_raised
          ∙ drop-append-add (map Instr.Test (blk E k Moment.Raised)) (from_raised E m i k y cs) 2
          ∙ ap₂ (λ n c. laid E m n c) (omega arith) (sym (drop-next (code E m) cs _ j s.plain));
    }

module _ (E : Setting) (z : Bool) where
  open E use {A, B, S, p}

  pub plain_steps : {P W : Machine} {q : Option (List ℤ)} {o : ℕ → Option Open} → Tied E z P W q o → (t : ℕ) → t < length W.threads →
      {m j : ℕ} {r : List ℤ} {fs : List Frame} → thread P t ≡ thr Status.Ready m j r fs →
      (c : Own) → get_or (drop j (code E m)) 0 Own.End ≡ c → step (plain_applet p) P t ≡ own_step P t (local c (thr Status.Ready m j r fs) W.shared)
  plain_steps {P} {W} T t h {m} {j} {r} {fs} eu c a =
      step_in (plain_applet p) P t (omega (arith, T.wide)) T.goes ∙ ap (λ u. by_status (plain_applet p) P t u u.status) eu
      ∙ ap (λ i. run_instr i P t (thr Status.Ready m j r fs)) (fetch_plain E m j r ∙ ap Instr.Own a)
      ∙ ap (λ g. own_step P t (local c (thr Status.Ready m j r fs) g)) T.shared

  -- ---- both machines after an answer

  -- the machine after an answer that worked
  abbrev pub replied_to : Applet → Machine → ℕ → Thread → Bool → ℤ → Machine
  replied_to e m t u b a = (at_thread m t (resume e u b a) (cond (holds m.holder t) (set m.args 4 a) m.args) m.cells m.scratch m.holder)

  pub target_plain : (m j : ℕ) (r : List ℤ) {k y : ℕ} {cs : List Own} → drop j (code E m) ≡ Own.Host k y ∷ cs →
      raised_target (fetch (plain_applet p) (record { method = m; index = j; regs = r })) ≡ y
  target_plain m j r d = ap raised_target (fetch_plain E m j r ∙ ap (λ c. Instr.Own (get_or c 0 Own.End)) d)

  pub target_woven : (m x : ℕ) (r : List ℤ) {k y : ℕ} {is : List Instr} → drop x (codew E m) ≡ Instr.Own (Own.Host k y) ∷ is →
      raised_target (fetch (woven_applet A B p) (record { method = m; index = x; regs = r })) ≡ y
  target_woven m x r d = ap raised_target (fetch_woven E m x r ∙ ap (λ c. get_or c 0 (Instr.Own Own.End)) d)

  pub free_replied : {P W : Machine} {q : Option (List ℤ)} {o : ℕ → Option Open} → Tied E z P W q o → (t : ℕ) → t < length W.threads →
      (W.holder ≡ Some t → ⊥) → {m j x k y : ℕ} (r : List ℤ) {fs gs : List Frame} {cs : List Own} → length r ≡ 8 → At E m j x → Callers E fs gs →
      drop j (code E m) ≡ Own.Host k y ∷ cs → A.watched k ≡ false → (b : Bool) (a : ℤ) →
      Tied E z (replied_to (plain_applet p) P t (thr Status.Awaiting m j r fs) b a)
      (replied_to (woven_applet A B p) W t (thr Status.Awaiting m x r gs) b a) q (now_open t None o)
  free_replied {P} {W} {q} {o} T t h n {m} {j} {x} {k} {y} r {fs} {gs} {cs} l at c d wk b a =
      subst (λ i. Tied E z (replied_to (plain_applet p) P t (thr Status.Awaiting m j r fs) b a)
      (at_thread W t (resume (woven_applet A B p) (thr Status.Awaiting m x r gs) b a) (cond i (set W.args 4 a) W.args) W.cells
      W.scratch W.holder) q (now_open t None o))
      (sym (holds_not W.holder t n))
      (tied_set E z T t h (resume (plain_applet p) (thr Status.Awaiting m j r fs) b a)
      (resume (woven_applet A B p) (thr Status.Awaiting m x r gs) b a) P.shared W.shared W.args W.cells W.scratch T.shared
      T.args T.cells T.scratch W.holder q (now_open t None o)
      (λ i nz nh. subst (λ y. Free E z y (thread P i) (thread W i)) (sym (shut_there o t i nz)) (T.free i nh))
      (λ nh. Free.ready (length-set r 0 a ∙ l) (resumed_at E b m j x y _ _ (target_plain m j r d) (target_woven m x r f) (at_next E z m j x d f)) c)
      (lock_stays E z P W q o (now_open t None o) t _ _ W.holder n (shut_there o t) T.lock) P.cells P.scratch
      (cond (holds P.holder t) (set P.args 4 a) P.args) P.holder)
    where
      f : drop x (codew E m) ≡ Instr.Own (Own.Host k (to E m y)) ∷ laid E m (x + 1) cs
      f = host_code E m j x d wk at

  module _ {P W : Machine} {q : Option (List ℤ)} {o : ℕ → Option Open} (T : Tied E z P W q o) (zt : z ≡ true) (t : ℕ) (h : t < length W.threads)
      (m j x : ℕ) (r : List ℤ) (fs gs : List Frame) (l : length r ≡ 8) (cl : Callers E fs gs) (eu : thread P t ≡ thr Status.Ready m j r fs) where
    -- the woven machine runs instruction i, and is followed
    abbrev Stepping : Instr → Type 0
    Stepping i = Sim E z P W q o (after W (run_instr i W t (thr Status.Ready m x r gs))) (shown t (run_instr i W t (thr Status.Ready m x r gs)))

    -- the woven machine runs the instruction at which its thread stands, and is followed
    abbrev Goes : Type 0
    Goes = Stepping (fetch (woven_applet A B p) (record { method = m; index = x; regs = r }))

    at_instr : (i : Instr) → get_or (drop x (codew E m)) 0 (Instr.Own Own.End) ≡ i → Stepping i → Goes
    at_instr i f k = subst Stepping (sym (fetch_woven E m x r ∙ f)) k

    at_head : (i : Instr) (is : List Instr) → drop x (codew E m) ≡ i ∷ is → Stepping i → Goes
    at_head i is f k = at_instr i (ap (λ y. get_or y 0 (Instr.Own Own.End)) f) k

    -- only the woven machine moves
    alone_set : (y : ℕ) (a s c : List ℤ) (ho : Option ℕ) → length a ≡ 5 → length s ≡ 32 → length c ≡ 8 →
        ((i : ℕ) → (i ≡ t → ⊥) → (ho ≡ Some i → ⊥) → Free E z (o i) (thread P i) (thread W i)) →
        ((ho ≡ Some t → ⊥) → Free E z (o t) (thr Status.Ready m j r fs) (thr Status.Ready m y r gs)) →
        LockNow E z t (thr Status.Ready m j r fs) (thr Status.Ready m y r gs) q o P W a s c ho →
        Sim E z P W q o (at_thread W t (thr Status.Ready m y r gs) a s c ho) []
    alone_set y a s c ho la ls lc others here lock = alone E z
        (subst (λ N. Tied E z N (at_thread W t (thr Status.Ready m y r gs) a s c ho) q o) (unmoved P t (thr Status.Ready m j r fs) eu)
        (tied_set E z T t h (thr Status.Ready m j r fs) (thr Status.Ready m y r gs) P.shared W.shared a s c
        T.shared la ls lc ho q o others here lock P.cells P.scratch P.args P.holder))

    -- ---- a thread that does not hold the lock

    locking : (k y : ℕ) (cs : List Own) → SiteAt E m j x k y cs → (ho : Option ℕ) → W.holder ≡ ho →
        Sim E z P W q o (after W (lock_step ho W t (thr Status.Ready m x r gs))) (shown t (lock_step ho W t (thr Status.Ready m x r gs)))
    locking k y cs s (Some i) g = alone E z T
    locking k y cs s None g =
        alone_set (x + 1) (take 4 r ++ drop 4 W.args) W.cells W.scratch (Some t)
        (simp (length-append, length-take, length-drop) (omega (arith, T.args))) T.cells T.scratch
        (λ i nz nh. T.free i (not_both i g)) (λ nh. absurd (nh refl))
        (inl (
          refl,
          Held.before last (blk E k Moment.Before) l s cl (drop-next (codew E m) _ (Instr.Lock k) x (site_code E s)) refl ea (subst (Lock E z q o P W) g T.lock)
              (subst₂ (λ a d. Owes A (exec a 0 (blk E k Moment.Before) W.cells W.scratch) d) (sym ea)
              (blind E k (take 4 r) last (pos 0) W.cells (length-take-le 4 r (omega arith)) T.cells)
              (owed E k Moment.Before (take 4 r) last W.cells W.scratch (length-take-le 4 r (omega arith)) T.cells T.scratch)) zt,
        ))
      where
        last : ℤ
        last = get_or W.args 4 (pos 0)

        ea : take 4 r ++ drop 4 W.args ≡ take 4 r ++ (last ∷ [])
        ea = ap (λ y. take 4 r ++ y) (last_of W.args T.args)

    module _ (n : W.holder ≡ Some t → ⊥) where
      ready_step : Ready E z (o t) m j x r fs gs → Goes
      ready_step (Ready.own c d a b k) =
          at_instr (Instr.Own d) b (let al = k W.shared in both E z t _ _
          (plain_steps T t h eu c a ∙ ap (λ s. Stepped.done (after P (own_step P t (local c (thr Status.Ready m j r fs) W.shared))) s)
          al.says) q (own_tied E z T t h n _ _ al)
          (λ es g. subst (λ y. Accepted A q (y ++ es))
          (sym (quiet_events A.watched o t (local d (thr Status.Ready m x r gs) W.shared).says al.quiet)) g))
      ready_step (Ready.watched k y cs s) = at_head (Instr.Lock k) _ (site_code E s) (locking k y cs s W.holder refl)

      slide : (y : ℕ) → At E m j y → Sim E z P W q o (with_thread W t (thr Status.Ready m y r gs)) []
      slide y a = alone_set y W.args W.cells W.scratch W.holder T.args T.cells T.scratch (λ i nz nh. T.free i nh)
          (λ nh. Free.ready l a cl) (lock_stays E z P W q o o t _ _ W.holder n (λ i nz. refl) T.lock)

      passes : {y : ℕ} {i : Instr} {is : List Instr} → At E m j y → drop x (codew E m) ≡ i ∷ is → Pass i (x + 1) y → Goes
      passes a f (Pass.skip {n = k} g) = at_head _ _ f (slide (x + 1 + k) (subst (At E m j) g a))
      passes {y = y} a f Pass.jump = at_head _ _ f (slide y a)

    -- ---- the thread that holds the lock

    module _ (n : W.holder ≡ Some t) where
      others : (i : ℕ) → (i ≡ t → ⊥) → Free E z (o i) (thread P i) (thread W i)
      others i k = T.free i (λ e. k (some_same t i n e))

      tested : (Z : List Instr) (Q : Option (List ℤ)) (i : Test) (b : List Test) → drop x (codew E m) ≡ Instr.Test i ∷ (map Instr.Test b ++ Z) →
          Owes A (exec W.args 0 (i ∷ b) W.cells W.scratch) Q →
          ((y : ℕ) (d : List Test) (s c : List ℤ) → drop y (codew E m) ≡ map Instr.Test d ++ Z → y + length d ≡ x + 1 + length b →
          Owes A (exec W.args 0 d s c) Q → Held E z q (o t) W.args s c (thr Status.Ready m j r fs) (thr Status.Ready m y r gs)) → Goes
      tested Z Q i b f ow k = at_head (Instr.Test i) _ f (go (turn W.args i W.cells W.scratch) (turn_keeps W.args i W.cells W.scratch) ow)
        where
          go : (u : Turn) → Kept (length W.cells) (length W.scratch) u →
              Owes A (elim u [ Turn.went n s' m' ↦ exec W.args n b s' m' | Turn.halts ↦ Ran.stopped ]) Q →
              Sim E z P W q o (after W (test_step W t (thr Status.Ready m x r gs) u)) (shown t (test_step W t (thr Status.Ready m x r gs) u))
          go Turn.halts ks ow = halting E z refl
          go (Turn.went d s c) ks ow =
              let ex = exec_drop W.args d b s c (owes_strays A _ Q ow) in
              alone_set (x + 1 + d) W.args s c W.holder T.args (ks.0 ∙ T.cells) (ks.1 ∙ T.scratch) (λ i nz nh. others i nz) (λ nh. absurd (nh n))
              (subst (LockNow E z t _ _ q o P W W.args s c) (sym n)
              (inl (
                refl,
                k (x + 1 + d) (drop d b) s c
                    (drop_more (codew E m) _ (x + 1) d (drop-next (codew E m) _ (Instr.Test i) x f) ∙ drop_tests d b Z ex.0)
                    (simp length-drop (omega (arith, ex.0))) (subst (λ y. Owes A y Q) ex.1 ow),
              )))

      host_step : {i k y : ℕ} {d : List ℤ} {cs : List Own} (v : ℤ) → SiteAt E m j i k y cs → drop x (codew E m) ≡ from_host E m i k y cs →
          x ≡ i + 1 + length (blk E k Moment.Before) →
          W.args ≡ take 4 r ++ (v ∷ []) → q ≡ Some d → A.step (event A Moment.Before k (take 4 r) (pos 0)) d ≡ Some (take A.width W.cells) → Goes
      host_step {i} {k} {y} {d} {cs} v s f ix ea eq got =
          at_head _ _ f (both E z t _ (Outcome.Called k (take 4 r)) (plain_steps T t h eu (Own.Host k y) (ap (λ y. get_or y 0 Own.End) s.plain))
          (Some (take A.width W.cells))
          (tied_set E z T t h (thr Status.Awaiting m j r fs) (thr Status.Awaiting m x r gs) W.shared W.shared W.args W.cells
          W.scratch refl T.args T.cells T.scratch W.holder (Some (take A.width W.cells)) (opened t k (take 4 r) o)
          (λ i nz nh. subst (λ y. Free E z y (thread P i) (thread W i)) (sym (opens_there o t i (Outcome.Called k (take 4 r)) nz)) (others i nz))
          (λ nh. absurd (nh n))
          (subst (LockNow E z t _ _ _ (opened t k (take 4 r) o) P W W.args W.cells W.scratch) (sym n)
          (inl (refl, Held.wait v l s cl f ix ea refl (opens_here o t (Outcome.Called k (take 4 r))))))
          P.cells P.scratch P.args P.holder)
          (λ es g. subst (λ b. Accepted A q ((cond b (event A Moment.Before k (take 4 r) (pos 0) ∷ []) [] ++ []) ++ es)) (sym s.watch)
          (subst (λ y. Accepted A y (event A Moment.Before k (take 4 r) (pos 0) ∷ es)) (sym eq) (subst (λ y. AcceptRest A es true y (λ d. Accepts A d es)) (sym got) g))))

      unlocking : {y : ℕ} {i : Instr} (is : List Instr) → At E m j y → drop x (codew E m) ≡ Instr.Unlock ∷ (i ∷ is) → Pass i (x + 2) y →
          q ≡ Some (take A.width W.cells) → Goes
      unlocking {y} {i} is a f k e = at_head Instr.Unlock _ f
          (subst (λ b. Sim E z P W q o (after W (unlock_step b W t (thr Status.Ready m x r gs)))
          (shown t (unlock_step b W t (thr Status.Ready m x r gs)))) (sym (holds_it W.holder t n))
          (alone_set (x + 1) W.args W.cells W.scratch None T.args T.cells T.scratch (λ i nz nh. others i nz)
          (λ nh. Free.passing l a cl (drop-next (codew E m) _ Instr.Unlock x f)
          (let ax : x + 2 ≡ x + 1 + 1 = omega arith in subst (λ n. Pass i n y) ax k) zt) e))

  module _ {P W : Machine} {q : Option (List ℤ)} {o : ℕ → Option Open} (T : Tied E z P W q o) (zt : z ≡ true) (t : ℕ) (h : t < length W.threads) where
    -- a step of the woven machine is followed, v being its thread
    abbrev pub Steps : Thread → Type 0
    Steps v = Sim E z P W q o (after W (by_status (woven_applet A B p) W t v v.status)) (shown t (by_status (woven_applet A B p) W t v v.status))

    pub free_step : (W.holder ≡ Some t → ⊥) → (u v : Thread) → thread P t ≡ u → Free E z (o t) u v → Steps v
    free_step n u v e (Free.ready {m} {j} {x} {r} {fs} {gs} l a c) = ready_step T zt t h m j x r fs gs l c e n (ready_at E z (o t) m j x r fs gs l c a)
    free_step n u v e Free.ended = alone E z T
    free_step n u v e (Free.waiting l a c d k xs g) = alone E z T
    free_step n u v e (Free.passing {m} {j} {x} {y} {r} {fs} {gs} l a c d k _) = passes T zt t h m j x r fs gs l c e n a d k

    pub held_step : W.holder ≡ Some t → (u v : Thread) → thread P t ≡ u → Held E z q (o t) W.args W.cells W.scratch u v → Steps v
    held_step n u v e (Held.before {m} {j} {x} {i} {k} {n = y} {r} {d} {fs} {gs} {cs} last [] l s c f ix ea eq ow _) = host_step T zt t h m j x r fs
        gs l c e n last s f (omega arith) ea eq (owes_end A W.cells W.scratch _ ow)
    held_step n u v e (Held.before {m} {j} {x} {i} {k} {n = y} {r} {d} {fs} {gs} {cs} last (a ∷ b) l s c f ix ea eq ow _) = tested T zt t h m j x r
        fs gs l c e n (from_host E m i k y cs) _ a b f ow
        (λ y b' s' c' f' i' ow'. Held.before last b' l s c f' (omega arith) ea eq ow' zt)
    held_step n u v e (Held.wait last l s c f ix ea eq eo) = alone E z T
    held_step n u v e (Held.leg {m} {j} {x} {y} {r} {fs} {gs} {i} is [] l a c f k ow _) = unlocking T zt t h m j x r fs gs l c e n is a f
        (let ax : x + 0 + 2 ≡ x + 2 = omega arith in subst (λ n. Pass i n y) ax k) (owes_end A W.cells W.scratch _ ow)
    held_step n u v e (Held.leg {m} {j} {x} {y} {r} {fs} {gs} {i} is (d ∷ b) l a c f k ow _) = tested T zt t h m j x r fs gs l c e n
        (Instr.Unlock ∷ (i ∷ is)) _ d b f ow
        (λ x' b' s' c' f' i' ow'. Held.leg is b' l a c f'
        (let ax : x + suc (length b) + 2 ≡ x' + length b' + 2 = omega arith in subst (λ n. Pass i n y) ax k) ow' zt)

    -- ---- answers

    leg_at : {m j x i k y : ℕ} (r : List ℤ) {fs gs : List Frame} {cs : List Own} (Q : Option (List ℤ)) (a : ℤ) (xs : List ℤ) → length r ≡ 8 →
        SiteAt E m j i k y cs → Callers E fs gs →
        drop x (codew E m) ≡ from_host E m i k y cs → x ≡ i + 1 + length (blk E k Moment.Before) → (b : Bool) →
        Owes A (exec xs 0 (blk E k (answer_moment b)) W.cells W.scratch) Q →
        (tp tw : ℕ) → tp ≡ y → tw ≡ i + (length (blk E k Moment.Before) + (length (blk E k Moment.After) + 4)) →
        Held E z Q (now_open t None o t) xs W.cells W.scratch (thr Status.Ready m (cond b tp (j + 1)) (set r 0 a) fs)
        (thr Status.Ready m (cond b tw (x + 1)) (set r 0 a) gs)
    leg_at {m} {j} {x} {i} {k} {y} r {fs} {gs} {cs} Q a xs l s c f ix true ow tp tw e g =
        Held.leg {y = to E m y} (laid E m (i + suc (behind (blk E) k)) cs) (blk E k Moment.Raised) (length-set r 0 a ∙ l) (rw e (at_target E z m y)) c
        (rw g (site_raised E s x f ix)) Pass.jump ow zt
    leg_at {m} {j} {x} {i} {k} {y} r {fs} {gs} {cs} Q a xs l s c f ix false ow tp tw e g =
        Held.leg _ (blk E k Moment.After) (length-set r 0 a ∙ l) (site_next E s x f ix) c (site_after E s x f ix) (Pass.skip refl) ow zt

    -- an answer to the woven machine is followed, v being its thread
    abbrev pub Answers : Thread → Bool → ℤ → Type 0
    Answers v b a = Sim E z P W q o (after W (answered (woven_applet A B p) W t v b a v.status))
        (replied t b a (answered (woven_applet A B p) W t v b a v.status))

    plain_answers : (u : Thread) (b : Bool) (a : ℤ) → thread P t ≡ u → answer (plain_applet p) P t b a ≡ answered (plain_applet p) P t u b a u.status
    plain_answers u b a e = answer_in (plain_applet p) P t b a (omega (arith, T.wide)) T.goes ∙ ap (λ u. answered (plain_applet p) P t u b a u.status) e

    pub free_answer : (W.holder ≡ Some t → ⊥) → (u v : Thread) (b : Bool) (a : ℤ) → thread P t ≡ u → Free E z (o t) u v → Answers v b a
    free_answer n u v b a e (Free.ready l at c) = alone E z T
    free_answer n u v b a e Free.ended = alone E z T
    free_answer n u v b a e (Free.waiting {m} {j} {x} {k} {n = y} {r} {fs} {gs} {cs} l at c d wk xs ok) =
        both_answer E z t b a _ _ (plain_answers (thr Status.Awaiting m j r fs) b a e) q (free_replied T t h n r l at c d wk b a)
        (λ es g. subst (λ i. Accepted A q ((reply_event A.watched i b a ++ []) ++ es)) (sym ok)
        (subst (λ i. Accepted A q ((cond i (event A (answer_moment b) k xs a ∷ []) [] ++ []) ++ es)) (sym wk) g))
    free_answer n u v b a e (Free.passing l at c d k _) = alone E z T

    pub held_answer : W.holder ≡ Some t → (u v : Thread) (b : Bool) (a : ℤ) → thread P t ≡ u →
        Held E z q (o t) W.args W.cells W.scratch u v → Answers v b a
    held_answer n u v b a e (Held.before last d l s c f ix ea eq ow _) = alone E z T
    held_answer n u v b a e (Held.wait {m} {j} {x} {i} {k} {n = y} {r} {fs} {gs} {cs} last l s c f ix ea eq eo) =
        both_answer E z t b a _ _ (plain_answers (thr Status.Awaiting m j r fs) b a e)
        (A.step (event A (answer_moment b) k (take 4 r) a) (take A.width W.cells))
        (subst (λ i. Tied E z (replied_to (plain_applet p) P t (thr Status.Awaiting m j r fs) b a)
        (at_thread W t (resume (woven_applet A B p) (thr Status.Awaiting m x r gs) b a) (cond i (set W.args 4 a) W.args) W.cells
        W.scratch W.holder) (A.step (event A (answer_moment b) k (take 4 r) a) (take A.width W.cells)) (now_open t None o))
        (sym (holds_it W.holder t n))
        (tied_set E z T t h (resume (plain_applet p) (thr Status.Awaiting m j r fs) b a)
        (resume (woven_applet A B p) (thr Status.Awaiting m x r gs) b a) P.shared W.shared (set W.args 4 a) W.cells W.scratch
        T.shared (length-set W.args 4 a ∙ T.args) T.cells T.scratch W.holder _ (now_open t None o)
        (λ i nz nh. subst (λ y. Free E z y (thread P i) (thread W i)) (sym (shut_there o t i nz)) (T.free i nh)) (λ nh. absurd (nh n))
        (subst (LockNow E z t _ _ _ (now_open t None o) P W (set W.args 4 a) W.cells W.scratch) (sym n) (inl (
          refl,
          leg_at r _ a (set W.args 4 a) l s c f ix b
              (subst (λ xs. Owes A (exec xs 0 (blk E k (answer_moment b)) W.cells W.scratch)
              (A.step (event A (answer_moment b) k (take 4 r) a) (take A.width W.cells)))
              (sym (ap (λ xs. set xs 4 a) ea ∙ set_at (take 4 r) last [] a 4 (length-take-le 4 r (omega arith))))
              (owed E k (answer_moment b) (take 4 r) a W.cells W.scratch (length-take-le 4 r (omega arith)) T.cells T.scratch))
              _ _ (target_plain m j r s.plain) (target_woven m x r f),
        )))
        P.cells P.scratch (cond (holds P.holder t) (set P.args 4 a) P.args) P.holder))
        (λ es g. subst (λ i. Accepted A q ((reply_event A.watched i b a ++ []) ++ es)) (sym eo)
        (subst (λ i. Accepted A q ((cond i (event A (answer_moment b) k (take 4 r) a ∷ []) [] ++ []) ++ es)) (sym s.watch)
        (subst (λ i. Accepted A i (event A (answer_moment b) k (take 4 r) a ∷ es)) (sym eq) (accept_reply A b _ es g))))
    held_answer n u v b a e (Held.leg is d l at c f k ow _) = alone E z T

  module _ {P W : Machine} {q : Option (List ℤ)} {o : ℕ → Option Open} (T : Tied E z P W q o) where
    -- by who holds the lock
    pub by_holder : (t : ℕ) (G : Type 0) → ((W.holder ≡ Some t → ⊥) → Free E z (o t) (thread P t) (thread W t) → G) →
        (W.holder ≡ Some t → Held E z q (o t) W.args W.cells W.scratch (thread P t) (thread W t) → G) → G
    by_holder t G f g = go W.holder refl
      where
        free : (W.holder ≡ Some t → ⊥) → G
        free n = f n (T.free t n)

        held : W.holder ≡ Some t → G
        held n = g n (subst (Lock E z q o P W) n T.lock).1

        go : (ho : Option ℕ) → W.holder ≡ ho → G
        go None e = free (not_both t e)
        go (Some i) e = ⊎_elim (λ k. held (e ∙ ap Some k)) (λ k. free (λ d. k (some_same t i d e))) (cases_eq i t)
