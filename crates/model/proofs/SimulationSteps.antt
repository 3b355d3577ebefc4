-- One act of the woven machine, followed by the plain one.
use Rattle.std.proofs.Common.{◌≡◌, ℕ, ◌+◌, ◌<◌, Bool, true, false, cond, ◌⊎◌, List, [], ◌∷◌, ◌++◌, map, length, get_or, take, drop, set, ℤ, pos, Some, None, Option, sym, refl, ap, ◌∙◌, subst, ap₂, subst₂, inl, inr, append-nil, arith, length-append, length-set, take-append-drop, length-take, length-take-le, drop-cons, get_or-set_other, get_or-set_same, take_at}
use lib.Seq.{set-get_or}
use Rattle.std.proofs.lemmas.List.{drop_all}
use Rattle.std.proofs.lemmas.Bool.{eq-eqb, ne_eqb, lt-ltb}
use Rattle.model.specs.declared.Moment.{Moment}
use Rattle.model.specs.declared.Own.{Own}
use Rattle.model.specs.declared.Instr.{Instr}
use Rattle.model.specs.declared.Event.{Event}
use Rattle.model.specs.Policy.{exec, Ran, end, due}
use Rattle.model.specs.declared.Outcome.{Outcome}
use Rattle.model.specs.declared.Status.{Status}
use Rattle.model.specs.Machine.{with_thread, with_shared, Applet, Machine, Thread, Frame, Stepped, Local, thread, new_thread, step}
use Rattle.model.specs.Machine.{answer, admit, by_status, own_step, local, answered, call_in}
use Rattle.model.specs.Runs.{Act, Seen, Open, now_open, events, seen_of, after, shown, replied}
use Rattle.model.specs.Weave.{plain_applet, retarget}
use Rattle.model.proofs.Base.{drop-next, set_both}
use Rattle.model.proofs.WovenCode.{unwatched_host, laid_own, woven_drop}
use Rattle.model.proofs.Simulation.{at_thread, Setting, thr, opens, event, Owes, Accepted, w, blk, code, codew, to, laid, At, Callers, Free, SiteAt}
use Rattle.model.proofs.Simulation.{Held, Lock, Tied, Sim, callers_length}

-- a thread's open call behind an outcome
abbrev pub open_after : Option Open → Outcome → Option Open
open_after o Outcome.Moved = o
open_after o (Outcome.Called k xs) = Some (record { number = k; args = xs })
open_after o (Outcome.Ended n) = o
open_after o Outcome.Stop = o

-- an outcome that is no event
abbrev pub Quiet : (ℕ → Bool) → Outcome → Type 0
Quiet w Outcome.Moved = Unit {0}
Quiet w (Outcome.Called k xs) = w k ≡ false
Quiet w (Outcome.Ended n) = Unit {0}
Quiet w Outcome.Stop = Unit {0}

pub opens_here : (o : ℕ → Option Open) (t : ℕ) (s : Outcome) → opens o (seen_of t s) t ≡ open_after (o t) s
opens_here o t Outcome.Moved = refl
opens_here o t (Outcome.Called k xs) = rw (eq-eqb t t refl) refl
opens_here o t (Outcome.Ended n) = refl
opens_here o t Outcome.Stop = refl

pub opens_there : (o : ℕ → Option Open) (t z : ℕ) (s : Outcome) → (z ≡ t → ⊥) → opens o (seen_of t s) z ≡ o z
opens_there o t z Outcome.Moved n = refl
opens_there o t z (Outcome.Called k xs) n = rw (ne_eqb z t n) refl
opens_there o t z (Outcome.Ended m) n = refl
opens_there o t z Outcome.Stop n = refl

-- a reply closes the call of its thread, and no other
pub shut_there : (o : ℕ → Option Open) (t z : ℕ) → (z ≡ t → ⊥) → now_open t None o z ≡ o z
shut_there o t z n = rw (ne_eqb z t n) refl

pub quiet_events : (w : ℕ → Bool) (o : ℕ → Option Open) (t : ℕ) (s : Outcome) → Quiet w s → events w o (seen_of t s) ≡ []
quiet_events w o t Outcome.Moved h = refl
quiet_events w o t (Outcome.Called k xs) h = rw h refl
quiet_events w o t (Outcome.Ended m) h = refl
quiet_events w o t Outcome.Stop h = refl

pub last_of : (l : List ℤ) → length l ≡ 5 → drop 4 l ≡ get_or l 4 (pos 0) ∷ []
last_of l e = drop-cons l 4 (pos 0) (omega arith) ∙ ap (λ z. get_or l 4 (pos 0) ∷ z) (drop_all 5 l (omega arith))

pub step_in : (p : Applet) (m : Machine) (t : ℕ) → t < length m.threads → m.halted ≡ false → step p m t ≡ by_status p m t (thread m t) (thread m t).status
step_in p m t h e = ap₂ (λ a b. admit a b (by_status p m t (thread m t) (thread m t).status)) (lt-ltb t (length m.threads) h) e

pub answer_in : (p : Applet) (m : Machine) (t : ℕ) (b : Bool) (v : ℤ) → t < length m.threads → m.halted ≡ false →
    answer p m t b v ≡ answered p m t (thread m t) b v (thread m t).status
answer_in p m t b v h e = ap₂ (λ x y. admit x y (answered p m t (thread m t) b v (thread m t).status)) (lt-ltb t (length m.threads) h) e

pub unmoved : (P : Machine) (t : ℕ) (u : Thread) → thread P t ≡ u → ◌≡◌ {A = Machine} (with_thread P t u) P
unmoved P t u e = ap (λ l. record {
  threads = l;
  shared = P.shared;
  cells = P.cells;
  scratch = P.scratch;
  args = P.args;
  holder = P.holder;
  halted = P.halted;
}) (ap (set P.threads t) (sym e) ∙ set-get_or P.threads t (new_thread 0))

module _ (E : Setting) where
  open E use {A, B, S, p}

  -- ---- what a block owes

  pub blind : (k : ℕ) (xs : List ℤ) (v y : ℤ) (s : List ℤ) → length xs ≡ 4 → length s ≡ 32 →
      A.step (event A Moment.Before k xs v) (take A.width s) ≡ A.step (event A Moment.Before k xs y) (take A.width s)
  blind k xs v y s lx ls = S.shows.blind k xs v y (take A.width s) lx (length-take-le A.width s (omega (arith, S.narrow)))

  pub owed : (k : ℕ) (t : Moment) (xs : List ℤ) (v : ℤ) (s c : List ℤ) → length xs ≡ 4 → length s ≡ 32 → length c ≡ 8 →
      Owes A (exec (xs ++ (v ∷ [])) 0 (blk E k t) s c) (A.step (event A t k xs v) (take A.width s))
  owed k t xs v s c lx ls lc =
      go (exec (xs ++ (v ∷ [])) 0 (blk E k t) s c) (A.step (event A t k xs v) mine) (λ d. S.shows.keeps (event A t k xs v) mine d wide)
      (subst (λ y. end (exec (xs ++ (v ∷ [])) 0 (blk E k t) y c) ≡ due [] (drop A.width s) (A.step (event A t k xs v) mine)) (take-append-drop A.width s)
      (S.shows.runs k t 0 [] mine (drop A.width s) refl wide xs v c lx lc))
    where
      mine : List ℤ
      mine = take A.width s

      wide : length mine ≡ A.width
      wide = length-take-le A.width s (omega (arith, S.narrow))

      go : (R : Ran) (q : Option (List ℤ)) → ((d : List ℤ) → q ≡ Some d → length d ≡ A.width) → end R ≡ due [] (drop A.width s) q → Owes A R q
      go (Ran.reached s' m) (Some d) k h = let e : s' ≡ d ++ drop A.width s = cc in ap (take A.width) e ∙ take_at d (drop A.width s)
          A.width (k d refl)
      go (Ran.reached s' m) None k h = let z : ◌≡◌ {A = ℕ} 0 1 = cc in absurd (omega arith)
      go Ran.stopped (Some d) k h = let z : ◌≡◌ {A = ℕ} 0 1 = cc in absurd (omega arith)
      go Ran.stopped None k h = tt
      go Ran.astray (Some d) k h = let z : ◌≡◌ {A = ℕ} 0 1 = cc in absurd (omega arith)
      go Ran.astray None k h = let z : ◌≡◌ {A = ℕ} 0 1 = cc in absurd (omega arith)

module _ (E : Setting) (z : Bool) where
  open E use {A, B, S, p}

  -- ---- the tie after a move of thread t

  -- the lock, after a move of thread t
  abbrev pub LockNow : ℕ → Thread → Thread → Option (List ℤ) → (ℕ → Option Open) → Machine → Machine → List ℤ → List ℤ → List ℤ → Option ℕ → Type 0
  LockNow t u v q o P W a s c None = q ≡ Some (take A.width s)
  LockNow t u v q o P W a s c (Some h) = ((h ≡ t) × Held E z q (o t) a s c u v) ⊎
      ((h ≡ t → ⊥) × (h < length W.threads) × Held E z q (o h) a s c (thread P h) (thread W h))

  pub tied_set : {P W : Machine} {q : Option (List ℤ)} {o : ℕ → Option Open} → Tied E z P W q o → (t : ℕ) → t < length W.threads →
      (u v : Thread) (f g a s c : List ℤ) → f ≡ g → length a ≡ 5 → length s ≡ 32 → length c ≡ 8 →
      (ho : Option ℕ) (r : Option (List ℤ)) (o' : ℕ → Option Open) →
      ((y : ℕ) → (y ≡ t → ⊥) → (ho ≡ Some y → ⊥) → Free E z (o' y) (thread P y) (thread W y)) → ((ho ≡ Some t → ⊥) → Free E z (o' t) u v) →
      LockNow t u v r o' P W a s c ho →
      (pc ps pa : List ℤ) (ph : Option ℕ) →
      Tied E z (with_shared (at_thread P t u pa pc ps ph) f) (with_shared (at_thread W t v a s c ho) g) r o'
  tied_set {P} {W} {q} {o} T t h u v f g a s c e la ls lc ho r o' others here lock pc ps pa ph = record {
    wide = length-set P.threads t u ∙ T.wide ∙ sym (length-set W.threads t v);
    shared = e;
    goes = T.goes;
    awake = T.awake;
    cells = ls;
    scratch = lc;
    args = la;
    free = λ i n. set_both (λ y a b. (ho ≡ Some y → ⊥) → Free E z (o' y) a b) (new_thread 0) P.threads W.threads u v t (omega (arith, T.wide))
        T.wide here i (λ k. others i k) n;
    lock = locks ho lock;
  }
    where
      locks : (ho : Option ℕ) → LockNow t u v r o' P W a s c ho →
          Lock E z r o' (with_shared (at_thread P t u pa pc ps ph) f) (with_shared (at_thread W t v a s c ho) g) ho
      locks None k = k
      locks (Some i) (inl (k, l)) = rw k (
        rw (length-set W.threads t v) h,
        subst₂ (Held E z r (o' t) a s c)
            (sym (get_or-set_same P.threads t u (new_thread 0) (omega (arith, T.wide)))) (sym (get_or-set_same W.threads t v (new_thread 0) h)) l,
      )
      locks (Some i) (inr (k, l, m)) = (
        rw (length-set W.threads t v) l,
        subst₂ (Held E z r (o' i) a s c) (sym (get_or-set_other P.threads t i u (new_thread 0) k))
            (sym (get_or-set_other W.threads t i v (new_thread 0) k)) m,
      )

  -- the lock is not touched by a thread that does not hold it
  pub lock_stays : (P W : Machine) (q : Option (List ℤ)) (o o' : ℕ → Option Open) (t : ℕ) (u v : Thread) (ho : Option ℕ) → (ho ≡ Some t → ⊥) →
      ((y : ℕ) → (y ≡ t → ⊥) → o' y ≡ o y) → Lock E z q o P W ho → LockNow t u v q o' P W W.args W.cells W.scratch ho
  lock_stays P W q o o' t u v None n f l = l
  lock_stays P W q o o' t u v (Some h) n f l =
      let k : h ≡ t → ⊥ = λ e. n (ap Some e) in
      inr (k, l.0, subst (λ y. Held E z q y W.args W.cells W.scratch (thread P h) (thread W h)) (sym (f h k)) l.1)

  -- ---- ways to follow

  pub alone : {P W V : Machine} {q : Option (List ℤ)} {o : ℕ → Option Open} → Tied E z P V q o → Sim E z P W q o V []
  alone {q} T = record { acts = []; same = refl; next = q; tied = inl T; good = λ es h. h }

  pub halting : {P W V : Machine} {q : Option (List ℤ)} {o : ℕ → Option Open} → V.halted ≡ true → Sim E z P W q o V []
  halting {q} h = record { acts = []; same = refl; next = q; tied = inr h; good = λ es h. h }

  pub both : {P W V : Machine} {q : Option (List ℤ)} {o : ℕ → Option Open} (t : ℕ) (N : Machine) (s : Outcome) →
      step (plain_applet p) P t ≡ Stepped.done N s → (r : Option (List ℤ)) → Tied E z N V r (opens o (seen_of t s)) →
      ((es : List Event) → Accepted A r es → Accepted A q (events A.watched o (seen_of t s) ++ es)) → Sim E z P W q o V (seen_of t s)
  both {P} {V} {q} {o} t N s e r T g = record {
    acts = Act.step_of t ∷ [];
    same = ap (λ y. shown t y ++ []) e ∙ append-nil (seen_of t s);
    next = r;
    tied = inl (subst (λ y. Tied E z (after P y) V r (opens o (seen_of t s))) (sym e) T);
    good = g;
  }

  pub both_answer : {P W V : Machine} {q : Option (List ℤ)} {o : ℕ → Option Open} (t : ℕ) (b : Bool) (v : ℤ) (N : Machine) (s : Outcome) →
      answer (plain_applet p) P t b v ≡ Stepped.done N s → (r : Option (List ℤ)) → Tied E z N V r (now_open t None o) →
      ((es : List Event) → Accepted A r es → Accepted A q (events A.watched o (Seen.reply t b v ∷ []) ++ es)) → Sim E z P W q o V (Seen.reply t b v ∷ [])
  both_answer {P} {V} {q} {o} t b v N s e r T g = record {
    acts = Act.answer_to t b v ∷ [];
    same = ap (λ y. replied t b v y ++ []) e;
    next = r;
    tied = inl (subst (λ y. Tied E z (after P y) V r (now_open t None o)) (sym e) T);
    good = g;
  }

  -- ---- instructions of the applet's own

  -- an instruction of the applet's own does the same in both
  pub record Alike (o : Option Open) (l k : Local) : Type 0 where
    pub shared : l.shared ≡ k.shared
    pub says : l.says ≡ k.says
    pub free : Free E z (open_after o k.says) l.after k.after
    pub quiet : Quiet A.watched k.says

  pub alike : {o : Option Open} {u v : Thread} (g : List ℤ) → Free E z o u v →
      Alike o (record { after = u; shared = g; says = Outcome.Moved }) (record { after = v; shared = g; says = Outcome.Moved })
  alike g f = record { shared = refl; says = refl; free = f; quiet = tt }

  pub at_next : (m j x : ℕ) {c : Own} {i : Instr} {cs : List Own} → drop j (code E m) ≡ c ∷ cs → drop x (codew E m) ≡ i ∷ laid E m (x + 1) cs →
      At E m (j + 1) (x + 1)
  at_next m j x {c} {i} {cs} e f = record { here = drop-next (codew E m) _ i x f ∙ ap (laid E m (x + 1)) (sym (drop-next (code E m) cs c j e)) }

  pub at_target : (m n : ℕ) → At E m n (to E m n)
  at_target m n = record { here = woven_drop A.watched (blk E) (code E m) n }

  -- both machines after a step of the applet's own
  pub own_tied : {P W : Machine} {q : Option (List ℤ)} {o : ℕ → Option Open} → Tied E z P W q o → (t : ℕ) → t < length W.threads →
      (W.holder ≡ Some t → ⊥) → (l k : Local) → Alike (o t) l k →
      Tied E z (after P (own_step P t l)) (after W (own_step W t k)) q (opens o (seen_of t k.says))
  own_tied {P} {W} {q} {o} T t h n l k a =
      tied_set T t h l.after k.after l.shared k.shared W.args W.cells W.scratch a.shared T.args T.cells T.scratch
      W.holder q (opens o (seen_of t k.says))
      (λ i nz nh. subst (λ y. Free E z y (thread P i) (thread W i)) (sym (opens_there o t i k.says nz)) (T.free i nh))
      (λ nh. subst (λ y. Free E z y l.after k.after) (sym (opens_here o t k.says)) a.free)
      (lock_stays P W q o (opens o (seen_of t k.says)) t l.after k.after W.holder n (λ i nz. opens_there o t i k.says nz) T.lock)
      P.cells P.scratch P.args P.holder

  -- a thread that is ready, outside of a site
  pub data Ready (o : Option Open) (m j x : ℕ) (r : List ℤ) (fs gs : List Frame) : Type 0 where
    own : (c d : Own) → get_or (drop j (code E m)) 0 Own.End ≡ c → get_or (drop x (codew E m)) 0 (Instr.Own Own.End) ≡ Instr.Own d →
        ((g : List ℤ) → Alike o (local c (thr Status.Ready m j r fs) g) (local d (thr Status.Ready m x r gs) g)) → Ready o m j x r fs gs
    watched : (k n : ℕ) (cs : List Own) → SiteAt E m j x k n cs → Ready o m j x r fs gs

  module _ (o : Option Open) (m j x : ℕ) (r : List ℤ) (fs gs : List Frame) (l : length r ≡ 8) (cl : Callers E fs gs) where
    returning : (g : List ℤ) {fs gs : List Frame} → Callers E fs gs →
        Alike o (local Own.Ret (thr Status.Ready m j r fs) g) (local Own.Ret (thr Status.Ready m x r gs) g)
    returning g Callers.none = record { shared = refl; says = refl; free = Free.ended; quiet = tt }
    returning g (Callers.more {r = r'} k a c) = alike g (Free.ready (length-set r' 0 _ ∙ k) a c)

    calling : (g : List ℤ) (b : Bool) (k : ℕ) → At E m (j + 1) (x + 1) →
        Alike o (call_in b (thr Status.Ready m j r fs) g k) (call_in b (thr Status.Ready m x r gs) g k)
    calling g true k a = alike g (Free.ready (simp (length-append, length-take) (omega arith)) (record { here = refl }) (Callers.more l a cl))
    calling g false k a = record { shared = refl; says = refl; free = Free.ended; quiet = tt }

    branching : (b : Bool) (k : ℕ) → At E m (j + 1) (x + 1) → At E m (cond b k (j + 1)) (cond b (to E m k) (x + 1))
    branching true k a = at_target m k
    branching false k a = a

    host_at : (k y : ℕ) (cs : List Own) → drop j (code E m) ≡ Own.Host k y ∷ cs → drop x (codew E m) ≡ laid E m x (Own.Host k y ∷ cs) → (b : Bool) →
        A.watched k ≡ b → Ready o m j x r fs gs
    host_at k y cs a b true g = Ready.watched k y cs (record { plain = a; watch = g; base = record { here = b ∙ sym (ap (laid E m x) a) } })
    host_at k y cs a b false g = Ready.own _ (Own.Host k (to E m y)) (ap (λ y. get_or y 0 Own.End) a)
        (ap (λ y. get_or y 0 (Instr.Own Own.End))
        (b ∙ laid_own A.watched (blk E) x (Own.Host k (to E m y)) (map (retarget (to E m)) cs) (unwatched_host A.watched (blk E) k (to E m y) g)))
        (λ s. record { shared = refl; says = refl; free = Free.waiting l (record { here = b ∙ sym (ap (laid E m x) a) }) cl a g _ refl; quiet = g })

    own_at : (c : Own) (cs : List Own) → drop j (code E m) ≡ c ∷ cs → drop x (codew E m) ≡ laid E m x (c ∷ cs) → Ready o m j x r fs gs
    own_at (Own.Set y i) cs a b = Ready.own _ (Own.Set y i) (ap (λ y. get_or y 0 Own.End) a) (ap (λ y. get_or y 0 (Instr.Own Own.End)) b)
        (λ g. alike g (Free.ready (length-set r y _ ∙ l) (at_next m j x a b) cl))
    own_at (Own.Mov y i) cs a b = Ready.own _ (Own.Mov y i) (ap (λ y. get_or y 0 Own.End) a) (ap (λ y. get_or y 0 (Instr.Own Own.End)) b)
        (λ g. alike g (Free.ready (length-set r y _ ∙ l) (at_next m j x a b) cl))
    own_at (Own.Add y i) cs a b = Ready.own _ (Own.Add y i) (ap (λ y. get_or y 0 Own.End) a) (ap (λ y. get_or y 0 (Instr.Own Own.End)) b)
        (λ g. alike g (Free.ready (length-set r y _ ∙ l) (at_next m j x a b) cl))
    own_at (Own.Sub y i) cs a b = Ready.own _ (Own.Sub y i) (ap (λ y. get_or y 0 Own.End) a) (ap (λ y. get_or y 0 (Instr.Own Own.End)) b)
        (λ g. alike g (Free.ready (length-set r y _ ∙ l) (at_next m j x a b) cl))
    own_at (Own.Lt y i) cs a b = Ready.own _ (Own.Lt y i) (ap (λ y. get_or y 0 Own.End) a) (ap (λ y. get_or y 0 (Instr.Own Own.End)) b)
        (λ g. alike g (Free.ready (length-set r y _ ∙ l) (at_next m j x a b) cl))
    own_at (Own.Eq y i) cs a b = Ready.own _ (Own.Eq y i) (ap (λ y. get_or y 0 Own.End) a) (ap (λ y. get_or y 0 (Instr.Own Own.End)) b)
        (λ g. alike g (Free.ready (length-set r y _ ∙ l) (at_next m j x a b) cl))
    own_at (Own.Get y i) cs a b = Ready.own _ (Own.Get y i) (ap (λ y. get_or y 0 Own.End) a) (ap (λ y. get_or y 0 (Instr.Own Own.End)) b)
        (λ g. alike g (Free.ready (length-set r y _ ∙ l) (at_next m j x a b) cl))
    own_at (Own.Put y i) cs a b = Ready.own _ (Own.Put y i) (ap (λ y. get_or y 0 Own.End) a) (ap (λ y. get_or y 0 (Instr.Own Own.End)) b)
        (λ g. alike _ (Free.ready l (at_next m j x a b) cl))
    own_at (Own.Jump y) cs a b = Ready.own _ (Own.Jump (to E m y)) (ap (λ y. get_or y 0 Own.End) a) (ap (λ y. get_or y 0 (Instr.Own Own.End)) b)
        (λ g. alike g (Free.ready l (at_target m y) cl))
    own_at (Own.Brz y i) cs a b = Ready.own _ (Own.Brz y (to E m i)) (ap (λ y. get_or y 0 Own.End) a) (ap (λ y. get_or y 0 (Instr.Own Own.End)) b)
        (λ g. alike g (Free.ready l (branching _ i (at_next m j x a b)) cl))
    own_at (Own.Call y) cs a b = Ready.own _ (Own.Call y) (ap (λ y. get_or y 0 Own.End) a) (ap (λ y. get_or y 0 (Instr.Own Own.End)) b)
        (λ g. rw (callers_length E cl) (calling g _ y (at_next m j x a b)))
    own_at Own.Ret cs a b = Ready.own _ (Own.Ret) (ap (λ y. get_or y 0 Own.End) a) (ap (λ y. get_or y 0 (Instr.Own Own.End)) b) (λ g. returning g cl)
    own_at (Own.Host k y) cs a b = host_at k y cs a b (A.watched k) refl
    own_at Own.End cs a b = Ready.own _ (Own.End) (ap (λ y. get_or y 0 Own.End) a) (ap (λ y. get_or y 0 (Instr.Own Own.End)) b)
        (λ g. record { shared = refl; says = refl; free = Free.ended; quiet = tt })

    code_at : At E m j x → (cs : List Own) → drop j (code E m) ≡ cs → Ready o m j x r fs gs
    code_at a [] f = Ready.own Own.End Own.End (ap (λ y. get_or y 0 Own.End) f) (ap (λ y. get_or y 0 (Instr.Own Own.End)) (a.here ∙ ap (laid E m x) f))
        (λ g. record { shared = refl; says = refl; free = Free.ended; quiet = tt })
    code_at a (c ∷ cs) f = own_at c cs f (a.here ∙ ap (laid E m x) f)

    pub ready_at : At E m j x → Ready o m j x r fs gs
    ready_at a = code_at a (drop j (code E m)) refl
