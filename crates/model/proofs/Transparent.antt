-- Runs of the plain applet within the policy, echoed by the woven one.
use Rattle.std.proofs.Common.{◌≡◌, ℕ, zero, suc, ◌+◌, ◌<◌, Bool, true, false, cond, ltb, List, [], ◌∷◌, ◌++◌, map, length, get_or, take, drop, set, ℤ, pos, Some, None, Option, sym, refl, ap, ◌∙◌, subst, ap₂, subst₂, inl, append-nil, arith, length-append, length-drop, length-set, length-take, length-take-le, get_or-set_same, set-set}
use lib.ListN.{length-map}
use lib.Seq.{set_at, drop-append_seam}
use Rattle.std.proofs.lemmas.Bool.{eq-eqb, ne_eqb, ltb-true, false≢true}
use Rattle.model.specs.declared.Moment.{Moment}
use Rattle.model.specs.declared.Own.{Own}
use Rattle.model.specs.declared.Test.{Test}
use Rattle.model.specs.declared.Instr.{Instr}
use Rattle.model.specs.Policy.{Automaton, turn, Turn, exec, Ran}
use Rattle.model.specs.declared.Outcome.{Outcome}
use Rattle.model.specs.declared.Status.{Status}
use Rattle.model.specs.Machine.{with_shared, Applet, Machine, Thread, Frame, Stepped, Local, thread, new_thread, fetch, step, answer}
use Rattle.model.specs.Machine.{admit, by_status, run_instr, own_step, local, answered, test_step, unlock_step, holds, resume, raised_target}
use Rattle.model.specs.Runs.{Act, Seen, Open, run, trace, act, sees, events, seen_of, after, shown, replied, answer_moment, now_open, reply_event}
use Rattle.model.specs.Weave.{plain_applet, woven_applet}
use Rattle.model.proofs.Options.{not_both, some_same}
use Rattle.model.proofs.Base.{drop-next, drop_more, turn_keeps, Kept}
use Rattle.model.proofs.Simulation.{Setting, at_thread, thr, Pass, opened, opens, event, Owes, w, blk, codew, to, At, Callers, Free, from_host}
use Rattle.model.proofs.Simulation.{SiteAt, Held, Lock, Tied, fetch_plain, fetch_woven, site_code}
use Rattle.model.specs.Enforcement.{Takes, TakesThen, FreeThen, closed, Alone, Mirrored}
use Rattle.model.specs.Files.{loaded}
use Rattle.model.proofs.SimulationSteps.{unmoved, Quiet, opens_here, opens_there, shut_there, blind, last_of, step_in, answer_in, owed, tied_set}
use Rattle.model.proofs.SimulationSteps.{Alike, at_target, own_tied, Ready, ready_at}
use Rattle.model.proofs.Faithful.{holds_it, site_after, site_raised, site_next, replied_to, target_plain, target_woven, free_replied}
use Rattle.model.proofs.Faithful.{by_holder}
use Rattle.model.proofs.FaithfulRuns.{trace_append, tied_fresh, faithful}

-- ---- what a block that is run to its end leaves

-- a run keeps the lengths of the cells and of the scratch numbers
abbrev KeptBy : ℕ → ℕ → Ran → Type 0
KeptBy j k (Ran.reached s m) = (length s ≡ j) × (length m ≡ k)
KeptBy j k Ran.stopped = Unit {0}
KeptBy j k Ran.astray = Unit {0}

exec_keeps : (a : List ℤ) (b : List Test) (n : ℕ) (s c : List ℤ) (j k : ℕ) → length s ≡ j → length c ≡ k → KeptBy j k (exec a n b s c)
exec_keeps a [] zero s c j k e f = (e, f)
exec_keeps a [] (suc n) s c j k e f = tt
exec_keeps a (i ∷ b) (suc n) s c j k e f = exec_keeps a b n s c j k e f
exec_keeps a (i ∷ b) zero s c j k e f = go (turn a i s c) (turn_keeps a i s c) (exec_keeps a b)
  where
    go : (u : Turn) → Kept (length s) (length c) u → ((n : ℕ) (s c : List ℤ) (j k : ℕ) → length s ≡ j → length c ≡ k → KeptBy j k (exec a n b s c)) →
        KeptBy j k (elim u [ Turn.went n s' m' ↦ exec a n b s' m' | Turn.halts ↦ Ran.stopped ])
    go (Turn.went n s' m') h ih = ih n s' m' j k (h.0 ∙ e) (h.1 ∙ f)
    go Turn.halts h ih = tt

module _ (A : Automaton) where
  owes_some : (R : Ran) (d : List ℤ) → Owes A R (Some d) → (s c : List ℤ) × (R ≡ Ran.reached s c) × (take A.width s ≡ d)
  owes_some (Ran.reached s c) d h = (s, c, refl, h)
  owes_some Ran.stopped d h = absurd h
  owes_some Ran.astray d h = absurd h

  takes_some : (q : Option (List ℤ)) (G : List ℤ → Type 0) → TakesThen q G → (d : List ℤ) × (q ≡ Some d) × G d
  takes_some None G h = absurd h
  takes_some (Some d) G h = (d, refl, h)

free_none : (q : Option ℕ) (G : Type 0) → FreeThen q G → (q ≡ None) × G
free_none None G h = (refl, h)
free_none (Some t) G h = absurd h

closed_other : (q : Option ℕ) (t : ℕ) → (q ≡ Some t → ⊥) → closed q t ≡ q
closed_other None t n = refl
closed_other (Some u) t n = ap (λ b. cond b None (Some u)) (ne_eqb u t (λ e. n (ap Some e)))

quiet_takes : (A : Automaton) (c : List ℤ) (o : ℕ → Option Open) (t : ℕ) (s : Outcome) (rest : List Seen) → Quiet A.watched s →
    Takes A c (events A.watched o (seen_of t s ++ rest)) → Takes A c (events A.watched (opens o (seen_of t s)) rest)
quiet_takes A c o t Outcome.Moved rest q h = h
quiet_takes A c o t (Outcome.Called k xs) rest q h = subst
    (λ b. Takes A c (cond b (record { moment = Moment.Before; call = k; args = xs; answer = pos 0 } ∷ []) [] ++ events A.watched (opened t k xs o) rest)) q h
quiet_takes A c o t (Outcome.Ended n) rest q h = h
quiet_takes A c o t Outcome.Stop rest q h = h

quiet_alone : (w : ℕ → Bool) (ho : Option ℕ) (t : ℕ) (s : Outcome) (rest : List Seen) → Quiet w s → Alone w ho (seen_of t s ++ rest) → Alone w ho rest
quiet_alone w ho t Outcome.Moved rest q h = h
quiet_alone w ho t (Outcome.Called k xs) rest q h = subst
    (λ b. elim b as (λ b. Type 0) [ true ↦ FreeThen ho (Alone w (Some t) rest) | false ↦ Alone w ho rest ]) q h
quiet_alone w ho t (Outcome.Ended n) rest q h = h
quiet_alone w ho t Outcome.Stop rest q h = h

-- ---- ways of the woven machine

again : (W : Machine) (t : ℕ) (u v : Thread) (a s c a' s' c' : List ℤ) (ho ho' : Option ℕ) →
    at_thread (at_thread W t u a s c ho) t v a' s' c' ho' ≡ at_thread W t v a' s' c' ho'
again W t u v a s c a' s' c' ho ho' = ap
    (λ l. record { threads = l; shared = W.shared; cells = s'; scratch = c'; args = a'; holder = ho'; halted = W.halted }) (set-set W.threads t u v)

module _ (e : Applet) where
  -- acts that lead from one machine to another, with what is seen of them
  record Way (W V : Machine) (ss : List Seen) : Type 0 where
    acts : List Act
    same : trace e W acts ≡ ss
    ends : run e W acts ≡ V

  way_none : {W : Machine} → Way W W []
  way_none = record { acts = []; same = refl; ends = refl }

  run_append : (m : Machine) (xs ys : List Act) → run e m (xs ++ ys) ≡ run e (run e m xs) ys
  run_append m [] ys = refl
  run_append m (x ∷ xs) ys = run_append (act e m x) xs ys

  then : {W V U : Machine} {s r : List Seen} → Way W V s → Way V U r → Way W U (s ++ r)
  then {W} {V} {U} {s} {r} a b = record {
    acts = a.acts ++ b.acts;
    same = trace_append e W a.acts b.acts ∙ ap₂ (λ x m. x ++ trace e m b.acts) a.same a.ends ∙ ap (λ y. s ++ y) b.same;
    ends = run_append W a.acts b.acts ∙ ap (λ m. run e m b.acts) a.ends ∙ b.ends;
  }

  way_step : {W V : Machine} (t : ℕ) (s : Outcome) → step e W t ≡ Stepped.done V s → Way W V (seen_of t s)
  way_step {W} {V} t s k = record { acts = Act.step_of t ∷ []; same = ap (λ y. shown t y ++ []) k ∙ append-nil (seen_of t s); ends = ap (after W) k }

  way_answer : {W V : Machine} (t : ℕ) (b : Bool) (v : ℤ) (s : Outcome) → answer e W t b v ≡ Stepped.done V s → Way W V (Seen.reply t b v ∷ [])
  way_answer {W} {V} t b v s k = record { acts = Act.answer_to t b v ∷ []; same = ap (λ y. replied t b v y ++ []) k; ends = ap (after W) k }

module _ (E : Setting) (W : Machine) (t : ℕ) (h : t < length W.threads) (aw : W.halted ≡ false) (m : ℕ) (gs : List Frame) where
  open E use {A, B, S, p}

  -- the woven applet
  abbrev wp : Applet
  wp = woven_applet A B p

  way_instr : (x : ℕ) (r : List ℤ) (i : Instr) (is : List Instr) → drop x (codew E m) ≡ i ∷ is →
      (a s c : List ℤ) (ho : Option ℕ) (v : Thread) (a' s' c' : List ℤ) (ho' : Option ℕ) (oc : Outcome) →
      run_instr i (at_thread W t (thr Status.Ready m x r gs) a s c ho) t (thr Status.Ready m x r gs) ≡ Stepped.done
      (at_thread (at_thread W t (thr Status.Ready m x r gs) a s c ho) t v a' s' c' ho') oc →
      Way wp (at_thread W t (thr Status.Ready m x r gs) a s c ho) (at_thread W t v a' s' c' ho') (seen_of t oc)
  way_instr x r i is f a s c ho v a' s' c' ho' oc e = way_step wp t oc
      (step_in wp (at_thread W t (thr Status.Ready m x r gs) a s c ho) t (rw (length-set W.threads t (thr Status.Ready m x r gs)) h) aw
      ∙ ap (λ u. by_status wp (at_thread W t (thr Status.Ready m x r gs) a s c ho) t u u.status)
      (get_or-set_same W.threads t (thr Status.Ready m x r gs) (new_thread 0) h)
      ∙ ap (λ i. run_instr i (at_thread W t (thr Status.Ready m x r gs) a s c ho) t (thr Status.Ready m x r gs))
      (fetch_woven E m x r ∙ ap (λ y. get_or y 0 (Instr.Own Own.End)) f)
      ∙ e ∙ ap (λ n. Stepped.done n oc) (again W t _ v a s c a' s' c' ho ho'))

  block_way : (r a s' c' : List ℤ) (ho : Option ℕ) (Z : List Instr) (b : List Test) (n x y e : ℕ) → y ≡ x + n → e ≡ x + length b →
      drop x (codew E m) ≡ map Instr.Test b ++ Z → (s c : List ℤ) → exec a n b s c ≡ Ran.reached s' c' →
      Way wp (at_thread W t (thr Status.Ready m y r gs) a s c ho) (at_thread W t (thr Status.Ready m e r gs) a s' c' ho) []
  block_way r a s' c' ho Z [] zero x y e i k f s c g =
      let ey : y ≡ e = omega arith in let es : s ≡ s' = cc in let ec : c ≡ c' = cc in
      record { acts = []; same = refl; ends = λ ι. at_thread W t (thr Status.Ready m (ey ι) r gs) a (es ι) (ec ι) ho }
  block_way r a s' c' ho Z [] (suc n) x y e i k f s c g = let z : ◌≡◌ {A = ℕ} 0 1 = cc in absurd (omega arith)
  block_way r a s' c' ho Z (d ∷ b) (suc n) x y e i k f s c g = block_way r a s' c' ho Z b n (x + 1) y e (omega arith) (omega arith)
      (drop-next (codew E m) _ _ x f) s c g
  block_way r a s' c' ho Z (d ∷ b) zero x y e i k f s c g = go (turn a d s c) refl g (block_way r a s' c' ho Z b)
    where
      go : (u : Turn) → turn a d s c ≡ u → (elim u as (λ u. Ran) [ Turn.went n s'' m'' ↦ exec a n b s'' m'' | Turn.halts ↦ Ran.stopped ]) ≡ Ran.reached s' c' →
          ((n x y e : ℕ) → y ≡ x + n → e ≡ x + length b → drop x (codew E m) ≡ map Instr.Test b ++ Z → (s c : List ℤ) →
          exec a n b s c ≡ Ran.reached s' c' →
          Way wp (at_thread W t (thr Status.Ready m y r gs) a s c ho) (at_thread W t (thr Status.Ready m e r gs) a s' c' ho) []) →
          Way wp (at_thread W t (thr Status.Ready m y r gs) a s c ho) (at_thread W t (thr Status.Ready m e r gs) a s' c' ho) []
      go Turn.halts q g ih = let z : ◌≡◌ {A = ℕ} 0 1 = cc in absurd (omega arith)
      go (Turn.went n s'' c'') q g ih = then wp
          (way_instr y r (Instr.Test d) _ (let yx : y ≡ x = omega arith in ap (λ n. drop n (codew E m)) yx ∙ f) a s c ho
          (thr Status.Ready m (y + 1 + n) r gs) a s'' c'' ho Outcome.Moved
          (ap (test_step (at_thread W t (thr Status.Ready m y r gs) a s c ho) t (thr Status.Ready m y r gs)) q))
          (ih n (x + 1) (y + 1 + n) e (omega arith) (omega arith) (drop-next (codew E m) _ _ x f) s'' c'' g)

  seam : (b : List Test) (Z : List Instr) (x : ℕ) → drop x (codew E m) ≡ map Instr.Test b ++ Z → drop (x + length b) (codew E m) ≡ Z
  seam b Z x f = drop_more (codew E m) _ x (length b) f ∙ ap (λ n. drop n (map Instr.Test b ++ Z)) (sym (length-map b Instr.Test)) ∙ drop-append_seam
      (map Instr.Test b) Z

  call_way : {j x k y : ℕ} {cs : List Own} (r s' c' : List ℤ) → SiteAt E m j x k y cs → thread W t ≡ thr Status.Ready m x r gs → W.holder ≡ None →
      exec (take 4 r ++ drop 4 W.args) 0 (blk E k Moment.Before) W.cells W.scratch ≡ Ran.reached s' c' →
      Way wp W (at_thread W t (thr Status.Awaiting m (x + 1 + length (blk E k Moment.Before)) r gs) (take 4 r ++ drop 4 W.args) s' c' (Some t))
      (Seen.call t k (take 4 r) ∷ [])
  call_way {j} {x} {k} {y} {cs} r s' c' s ev n ex =
      subst (λ M. Way wp M (at_thread W t (thr Status.Awaiting m (x + 1 + length (blk E k Moment.Before)) r gs) (take 4 r ++ drop 4 W.args) s' c' (Some t))
      (Seen.call t k (take 4 r) ∷ []))
      (ap (at_thread W t (thr Status.Ready m x r gs) W.args W.cells W.scratch) (sym n) ∙ unmoved W t (thr Status.Ready m x r gs) ev)
      (then wp (way_instr x r (Instr.Lock k) _ (site_code E s) W.args W.cells W.scratch None (thr Status.Ready m (x + 1) r gs)
      (take 4 r ++ drop 4 W.args) W.cells W.scratch (Some t) Outcome.Moved refl)
      (then wp (block_way r (take 4 r ++ drop 4 W.args) s' c' (Some t) (from_host E m x k y cs) (blk E k Moment.Before) 0 (x + 1) (x + 1)
      (x + 1 + length (blk E k Moment.Before)) (omega arith) refl f W.cells W.scratch ex)
      (way_instr (x + 1 + length (blk E k Moment.Before)) r _ _ (seam (blk E k Moment.Before) (from_host E m x k y cs) (x + 1) f) (take 4 r ++ drop 4 W.args) s' c'
      (Some t) (thr Status.Awaiting m (x + 1 + length (blk E k Moment.Before)) r gs) (take 4 r ++ drop 4 W.args) s' c' (Some t) (Outcome.Called k (take 4 r)) refl)))
    where
      f : drop (x + 1) (codew E m) ≡ map Instr.Test (blk E k Moment.Before) ++ from_host E m x k y cs
      f = drop-next (codew E m) _ (Instr.Lock k) x (site_code E s)

  pass_way : (x y : ℕ) (i : Instr) (is : List Instr) (r a s c : List ℤ) (ho : Option ℕ) → drop x (codew E m) ≡ i ∷ is → Pass i (x + 1) y →
      Way wp (at_thread W t (thr Status.Ready m x r gs) a s c ho) (at_thread W t (thr Status.Ready m y r gs) a s c ho) []
  pass_way x y i is r a s c ho f (Pass.skip {n} e) = subst
      (λ n. Way wp (at_thread W t (thr Status.Ready m x r gs) a s c ho) (at_thread W t (thr Status.Ready m n r gs) a s c ho) []) (sym e)
      (way_instr x r _ is f a s c ho (thr Status.Ready m (x + 1 + n) r gs) a s c ho Outcome.Moved refl)
  pass_way x y i is r a s c ho f Pass.jump = way_instr x r _ is f a s c ho (thr Status.Ready m y r gs) a s c ho Outcome.Moved refl

  leg_way : (x y : ℕ) (i : Instr) (is : List Instr) (b : List Test) (r a s c s' c' : List ℤ) →
      drop x (codew E m) ≡ map Instr.Test b ++ (Instr.Unlock ∷ (i ∷ is)) → Pass i (x + length b + 2) y → exec a 0 b s c ≡ Ran.reached s' c' →
      Way wp (at_thread W t (thr Status.Ready m x r gs) a s c (Some t)) (at_thread W t (thr Status.Ready m y r gs) a s' c' None) []
  leg_way x y i is b r a s c s' c' f k ex =
      then wp (block_way r a s' c' (Some t) (Instr.Unlock ∷ (i ∷ is)) b 0 x x (x + length b) (omega arith) refl f s c ex)
      (then wp (way_instr (x + length b) r Instr.Unlock (i ∷ is) g a s' c' (Some t) (thr Status.Ready m (x + length b + 1) r gs) a s' c' None Outcome.Moved
      (ap (λ h. unlock_step h (at_thread W t (thr Status.Ready m (x + length b) r gs) a s' c' (Some t)) t (thr Status.Ready m (x + length b) r gs))
      (eq-eqb t t refl)))
      (pass_way (x + length b + 1) y i is r a s' c' None (drop-next (codew E m) _ Instr.Unlock (x + length b) g)
      (let ax : x + length b + 2 ≡ x + length b + 1 + 1 = omega arith in subst (λ n. Pass i n y) ax k)))
    where
      g : drop (x + length b) (codew E m) ≡ Instr.Unlock ∷ (i ∷ is)
      g = seam b (Instr.Unlock ∷ (i ∷ is)) x f

-- ---- one act of the plain machine, echoed

module _ (E : Setting) where
  open E use {A, B, S, p}

  -- one act of the plain machine, and the way of the woven one that echoes it
  record Echo (W : Machine) (o : ℕ → Option Open) (N : Machine) (ss rest : List Seen) : Type 0 where
    ends : Machine
    way : Way (woven_applet A B p) W ends ss
    next : List ℤ
    tied : Tied E false N ends (Some next) (opens o ss)
    takes : Takes A next (events A.watched (opens o ss) rest)
    alone : Alone A.watched ends.holder rest

  module _ {P W : Machine} {c : List ℤ} {o : ℕ → Option Open} (T : Tied E false P W (Some c) o) (rest : List Seen) where
    -- an act is echoed, if the policy takes the events and watched calls stay alone
    abbrev Echoes : Machine → List Seen → Type 0
    Echoes N ss = Takes A c (events A.watched o (ss ++ rest)) → Alone A.watched W.holder (ss ++ rest) → Echo W o N ss rest

    stays : Echoes P []
    stays ta al = record { ends = W; way = way_none (woven_applet A B p); next = c; tied = T; takes = ta; alone = al }

    module _ (t : ℕ) (h : t < length W.threads) where
      woven_steps : (m x : ℕ) (r : List ℤ) (gs : List Frame) (i : Instr) → thread W t ≡ thr Status.Ready m x r gs →
          get_or (drop x (codew E m)) 0 (Instr.Own Own.End) ≡ i → step (woven_applet A B p) W t ≡ run_instr i W t (thr Status.Ready m x r gs)
      woven_steps m x r gs i e f = step_in (woven_applet A B p) W t h T.awake ∙ ap (λ u. by_status (woven_applet A B p) W t u u.status) e
          ∙ ap (λ i. run_instr i W t (thr Status.Ready m x r gs)) (fetch_woven E m x r ∙ f)

      own_echo : (W.holder ≡ Some t → ⊥) → (l k : Local) → Alike E false (o t) l k → step (woven_applet A B p) W t ≡ own_step W t k →
          Echoes (after P (own_step P t l)) (seen_of t l.says)
      own_echo n l k a e = subst (λ s. Echoes (after P (own_step P t l)) (seen_of t s)) (sym a.says)
          (λ ta al. record {
            ends = after W (own_step W t k);
            way = way_step (woven_applet A B p) t k.says e;
            next = c;
            tied = own_tied E false T t h n l k a;
            takes = quiet_takes A c o t k.says rest a.quiet ta;
            alone = quiet_alone A.watched W.holder t k.says rest a.quiet al;
          })

      call_echo : {m j x k y : ℕ} {fs gs : List Frame} {cs : List Own} (r : List ℤ) → length r ≡ 8 → Callers E fs gs → SiteAt E m j x k y cs →
          thread P t ≡ thr Status.Ready m j r fs → thread W t ≡ thr Status.Ready m x r gs →
          Echoes (after P (own_step P t (local (Own.Host k y) (thr Status.Ready m j r fs) W.shared))) (Seen.call t k (take 4 r) ∷ [])
      call_echo {m} {j} {x} {k} {y} {fs} {gs} {cs} r l cl s eu ev ta al =
          let fr = free_none W.holder (Alone A.watched (Some t) rest)
          (subst (λ b. elim b as (λ b. Type 0) [
            | true ↦ FreeThen W.holder (Alone A.watched (Some t) rest)
            | false ↦ Alone A.watched
                W.holder rest
          ]) s.watch al) in
          let tk = takes_some A (A.step (event A Moment.Before k (take 4 r) (pos 0)) c) (λ d. Takes A d (events A.watched (opened t k (take 4 r) o) rest))
          (subst (λ b. Takes A c (cond b (event A Moment.Before k (take 4 r) (pos 0) ∷ []) [] ++ events A.watched (opened t k (take 4 r) o) rest)) s.watch ta) in
          go fr.0 fr.1 tk.0 tk.1 tk.2 (owes_some A _ tk.0 (ow fr.0 tk.0 tk.1))
        where
          last : ℤ
          last = get_or W.args 4 (pos 0)

          a : List ℤ
          a = take 4 r ++ drop 4 W.args

          ea : a ≡ take 4 r ++ (last ∷ [])
          ea = ap (λ y. take 4 r ++ y) (last_of W.args T.args)

          ow : W.holder ≡ None → (d : List ℤ) → A.step (event A Moment.Before k (take 4 r) (pos 0)) c ≡ Some d →
              Owes A (exec a 0 (blk E k Moment.Before) W.cells W.scratch) (Some d)
          ow n d got = let ce : c ≡ take A.width W.cells = some_same _ _ (subst (Lock E false (Some c) o P W) n T.lock) refl in
              subst₂ (λ a q. Owes A (exec a 0 (blk E k Moment.Before) W.cells W.scratch) q) (sym ea)
              (blind E k (take 4 r) last (pos 0) W.cells (length-take-le 4 r (omega arith)) T.cells ∙ ap
              (A.step (event A Moment.Before k (take 4 r) (pos 0))) (sym ce) ∙ got)
              (owed E k Moment.Before (take 4 r) last W.cells W.scratch (length-take-le 4 r (omega arith)) T.cells T.scratch)

          go : W.holder ≡ None → Alone A.watched (Some t) rest → (d : List ℤ) → A.step (event A Moment.Before k (take 4 r) (pos 0)) c ≡ Some d →
              Takes A d (events A.watched (opened t k (take 4 r) o) rest) →
              (s' c' : List ℤ) × (exec a 0 (blk E k Moment.Before) W.cells W.scratch ≡ Ran.reached s' c') × (take A.width s' ≡ d) →
              Echo W o (after P (own_step P t (local (Own.Host k y) (thr Status.Ready m j r fs) W.shared))) (Seen.call t k (take 4 r) ∷ []) rest
          go n al d got ta (s', c', ex, tk) =
              let kept : KeptBy 32 8 (Ran.reached s' c') = subst (KeptBy 32 8) ex
              (exec_keeps a (blk E k Moment.Before) 0 W.cells W.scratch 32 8 T.cells T.scratch) in
              record {
                ends = at_thread W t (thr Status.Awaiting m (x + 1 + length (blk E k Moment.Before)) r gs) a s' c' (Some t);
                way = call_way E W t h T.awake m gs r s' c' s ev n ex;
                next = d;
                tied = tied_set E false T t h (thr Status.Awaiting m j r fs) (thr Status.Awaiting m (x + 1 + length (blk E k Moment.Before)) r gs) W.shared
                    W.shared a s' c' refl (simp (length-append, length-take, length-drop) (omega (arith, T.args))) kept.0 kept.1 (Some t)
                    (Some d) (opened t k (take 4 r) o)
                    (λ i nz nh. subst (λ y. Free E false y (thread P i) (thread W i)) (sym (opens_there o t i (Outcome.Called k (take 4 r)) nz))
                    (T.free i (not_both i n))) (λ nh. absurd (nh refl))
                    (inl (
                      refl,
                      Held.wait last l s cl
                          (seam E W t h T.awake m gs (blk E k Moment.Before) (from_host E m x k y cs) (x + 1)
                          (drop-next (codew E m) _ (Instr.Lock k) x (site_code E s))) refl ea (ap Some (sym tk)) (opens_here o t (Outcome.Called k (take 4 r))),
                    ))
                    P.cells P.scratch P.args P.holder;
                takes = ta;
                alone = al;
              }

      ready_echo : (W.holder ≡ Some t → ⊥) → (m j x : ℕ) (r : List ℤ) (fs gs : List Frame) → length r ≡ 8 → Callers E fs gs →
          thread P t ≡ thr Status.Ready m j r fs → thread W t ≡ thr Status.Ready m x r gs → Ready E false (o t) m j x r fs gs →
          Echoes (after P (run_instr (fetch (plain_applet p) (record { method = m; index = j; regs = r })) P t (thr Status.Ready m j r fs)))
          (shown t (run_instr (fetch (plain_applet p) (record { method = m; index = j; regs = r })) P t (thr Status.Ready m j r fs)))
      ready_echo n m j x r fs gs l cl eu ev (Ready.own d d' a b k) = subst₂
          (λ i g. Echoes (after P (run_instr i (with_shared P g) t (thr Status.Ready m j r fs)))
          (shown t (run_instr i (with_shared P g) t (thr Status.Ready m j r fs))))
          (sym (fetch_plain E m j r ∙ ap Instr.Own a)) (sym T.shared) (own_echo n _ _ (k W.shared) (woven_steps m x r gs (Instr.Own d') ev b))
      ready_echo n m j x r fs gs l cl eu ev (Ready.watched k y cs s) = subst₂
          (λ i g. Echoes (after P (run_instr i (with_shared P g) t (thr Status.Ready m j r fs)))
          (shown t (run_instr i (with_shared P g) t (thr Status.Ready m j r fs))))
          (sym (fetch_plain E m j r ∙ ap (λ c. Instr.Own (get_or c 0 Own.End)) s.plain)) (sym T.shared) (call_echo r l cl s eu ev)

      free_echo : (W.holder ≡ Some t → ⊥) → (u v : Thread) → thread P t ≡ u → thread W t ≡ v → Free E false (o t) u v →
          Echoes (after P (by_status (plain_applet p) P t u u.status)) (shown t (by_status (plain_applet p) P t u u.status))
      free_echo n u v eu ev (Free.ready {m} {j} {x} {r} {fs} {gs} l a cl) = ready_echo n m j x r fs gs l cl eu ev (ready_at E false (o t) m j x r fs gs l cl a)
      free_echo n u v eu ev Free.ended = stays
      free_echo n u v eu ev (Free.waiting l a cl d k xs g) = stays
      free_echo n u v eu ev (Free.passing l a cl d k z) = absurd (false≢true z)

      held_echo : (u v : Thread) → Held E false (Some c) (o t) W.args W.cells W.scratch u v →
          Echoes (after P (by_status (plain_applet p) P t u u.status)) (shown t (by_status (plain_applet p) P t u u.status))
      held_echo u v (Held.before last b l s cl f ix ea eq ow z) = absurd (false≢true z)
      held_echo u v (Held.wait last l s cl f ix ea eq eo) = stays
      held_echo u v (Held.leg is b l a cl f k ow z) = absurd (false≢true z)

      -- ---- answers

      woven_answers : (v : Thread) (b : Bool) (a : ℤ) → thread W t ≡ v →
          answer (woven_applet A B p) W t b a ≡ answered (woven_applet A B p) W t v b a v.status
      woven_answers v b a e = answer_in (woven_applet A B p) W t b a h T.awake ∙ ap (λ v. answered (woven_applet A B p) W t v b a v.status) e

      free_reply : (W.holder ≡ Some t → ⊥) → (u v : Thread) (b : Bool) (a : ℤ) → thread W t ≡ v → Free E false (o t) u v →
          Echoes (after P (answered (plain_applet p) P t u b a u.status)) (replied t b a (answered (plain_applet p) P t u b a u.status))
      free_reply n u v b a ev (Free.ready l at cl) = stays
      free_reply n u v b a ev Free.ended = stays
      free_reply n u v b a ev (Free.waiting {m} {j} {x} {k} {n = y} {r} {fs} {gs} {cs} l at cl d wk xs ok) = λ ta al. record {
        ends = replied_to E false (woven_applet A B p) W t (thr Status.Awaiting m x r gs) b a;
        way = way_answer (woven_applet A B p) t b a Outcome.Moved (woven_answers (thr Status.Awaiting m x r gs) b a ev);
        next = c;
        tied = free_replied E false T t h n r l at cl d wk b a;
        takes = subst (λ i. Takes A c (cond i (event A (answer_moment b) k xs a ∷ []) [] ++ events A.watched (now_open t None o) rest)) wk
            (subst (λ i. Takes A c (reply_event A.watched i b a ++ events A.watched (now_open t None o) rest)) ok ta);
        alone = subst (λ q. Alone A.watched q rest) (closed_other W.holder t n) al;
      }
      free_reply n u v b a ev (Free.passing l at cl d k z) = absurd (false≢true z)

      reply_leg : {m j x i k y : ℕ} {cs : List Own} (gs : List Frame) (r xs s' c' : List ℤ) → SiteAt E m j i k y cs →
          drop x (codew E m) ≡ from_host E m i k y cs → x ≡ i + 1 + length (blk E k Moment.Before) →
          (b : Bool) (tp tw : ℕ) → tp ≡ y → tw ≡ i + (length (blk E k Moment.Before) + (length (blk E k Moment.After) + 4)) →
          exec xs 0 (blk E k (answer_moment b)) W.cells W.scratch ≡ Ran.reached s' c' →
          (e : ℕ) × At E m (cond b tp (j + 1)) e × Way (woven_applet A B p)
          (at_thread W t (thr Status.Ready m (cond b tw (x + 1)) r gs) xs W.cells W.scratch (Some t))
          (at_thread W t (thr Status.Ready m e r gs) xs s' c' None) []
      reply_leg {m} {j} {x} {i} {k} {y} {cs} gs r xs s' c' s f ix true tp tw e g ex = (
        to E m y,
        rw e (at_target E false m y),
        rw g (leg_way E W t h T.awake m gs _ (to E m y) _ _ (blk E k Moment.Raised) r xs W.cells W.scratch s' c' (site_raised E s x f ix) Pass.jump ex),
      )
      reply_leg {m} {j} {x} {i} {k} {y} {cs} gs r xs s' c' s f ix false tp tw e g ex = (
        _,
        site_next E s x f ix,
        leg_way E W t h T.awake m gs (x + 1) _ _ _ (blk E k Moment.After) r xs W.cells W.scratch s' c'
            (site_after E s x f ix) (Pass.skip refl) ex,
      )

      wait_reply : W.holder ≡ Some t → {m j x i k y : ℕ} {fs gs : List Frame} {cs : List Own} (r : List ℤ) (b : Bool) (a last : ℤ) → length r ≡ 8 →
          SiteAt E m j i k y cs → Callers E fs gs → drop x (codew E m) ≡ from_host E m i k y cs → x ≡ i + 1 + length (blk E k Moment.Before) →
          W.args ≡ take 4 r ++ (last ∷ []) → c ≡ take A.width W.cells → o t ≡ Some (record { number = k; args = take 4 r }) →
          thread W t ≡ thr Status.Awaiting m x r gs →
          Echoes (replied_to E false (plain_applet p) P t (thr Status.Awaiting m j r fs) b a) (Seen.reply t b a ∷ [])
      wait_reply n {m} {j} {x} {i} {k} {y} {fs} {gs} {cs} r b a last l s cl f ix ea ce eo ev ta al =
          let tk = takes_some A (A.step (event A (answer_moment b) k (take 4 r) a) c) (λ d. Takes A d (events A.watched (now_open t None o) rest))
          (subst (λ i. Takes A c (cond i (event A (answer_moment b) k (take 4 r) a ∷ []) [] ++ events A.watched (now_open t None o) rest)) s.watch
          (subst (λ i. Takes A c (reply_event A.watched i b a ++ events A.watched (now_open t None o) rest)) eo ta)) in
          go tk.0 tk.2 (owes_some A _ tk.0 (ow tk.0 tk.1))
        where
          xs : List ℤ
          xs = set W.args 4 a

          ex : xs ≡ take 4 r ++ (a ∷ [])
          ex = ap (λ xs. set xs 4 a) ea ∙ set_at (take 4 r) last [] a 4 (length-take-le 4 r (omega arith))

          ow : (d : List ℤ) → A.step (event A (answer_moment b) k (take 4 r) a) c ≡ Some d →
              Owes A (exec xs 0 (blk E k (answer_moment b)) W.cells W.scratch) (Some d)
          ow d got = subst₂ (λ a q. Owes A (exec a 0 (blk E k (answer_moment b)) W.cells W.scratch) q) (sym ex)
              (ap (A.step (event A (answer_moment b) k (take 4 r) a)) (sym ce) ∙ got)
              (owed E k (answer_moment b) (take 4 r) a W.cells W.scratch (length-take-le 4 r (omega arith)) T.cells T.scratch)

          go : (d : List ℤ) → Takes A d (events A.watched (now_open t None o) rest) →
              (s' c' : List ℤ) × (exec xs 0 (blk E k (answer_moment b)) W.cells W.scratch ≡ Ran.reached s' c') × (take A.width s' ≡ d) →
              Echo W o (replied_to E false (plain_applet p) P t (thr Status.Awaiting m j r fs) b a) (Seen.reply t b a ∷ []) rest
          go d ta (s', c', re, tk) =
              let kept : KeptBy 32 8 (Ran.reached s' c') = subst (KeptBy 32 8) re
              (exec_keeps xs (blk E k (answer_moment b)) 0 W.cells W.scratch 32 8 T.cells T.scratch) in
              let lg = reply_leg gs (set r 0 a) xs s' c' s f ix b
              (raised_target (fetch (plain_applet p) (record { method = m; index = j; regs = r })))
              (raised_target (fetch (woven_applet A B p) (record { method = m; index = x; regs = r }))) (target_plain E false m j r s.plain)
              (target_woven E false m x r f) re in
              record {
                ends = at_thread W t (thr Status.Ready m lg.0 (set r 0 a) gs) xs s' c' None;
                way = then (woven_applet A B p) (way_answer (woven_applet A B p) t b a Outcome.Moved (woven_answers (thr Status.Awaiting m x r gs) b a ev
                    ∙ ap₂ (λ z ho. Stepped.done (at_thread W t (resume (woven_applet A B p) (thr Status.Awaiting m x r gs) b a) (cond z xs W.args)
                    W.cells W.scratch ho) Outcome.Moved) (holds_it W.holder t n) n)) lg.2;
                next = d;
                tied = tied_set E false T t h (resume (plain_applet p) (thr Status.Awaiting m j r fs) b a)
                    (thr Status.Ready m lg.0 (set r 0 a) gs) P.shared W.shared xs s' c' T.shared (length-set W.args 4 a ∙ T.args)
                    kept.0 kept.1 None (Some d) (now_open t None o)
                    (λ i nz nh. subst (λ y. Free E false y (thread P i) (thread W i)) (sym (shut_there o t i nz))
                    (T.free i (λ e. nz (some_same t i n e)))) (λ nh. Free.ready (length-set r 0 a ∙ l) lg.1 cl) (ap Some (sym tk))
                    P.cells P.scratch (cond (holds P.holder t) (set P.args 4 a) P.args) P.holder;
                takes = ta;
                alone = subst (λ q. Alone A.watched q rest) (ap (λ q. closed q t) n ∙ ap (λ z. cond z None (Some t)) (eq-eqb t t refl)) al;
              }

      held_reply : W.holder ≡ Some t → (u v : Thread) (b : Bool) (a : ℤ) → thread W t ≡ v →
          Held E false (Some c) (o t) W.args W.cells W.scratch u v →
          Echoes (after P (answered (plain_applet p) P t u b a u.status)) (replied t b a (answered (plain_applet p) P t u b a u.status))
      held_reply n u v b a ev (Held.before last d l s cl f ix ea eq ow z) = absurd (false≢true z)
      held_reply n u v b a ev (Held.wait {r} last l s cl f ix ea eq eo) = wait_reply n r b a last l s cl f ix ea (some_same _ _ eq refl) eo ev
      held_reply n u v b a ev (Held.leg is d l at cl f k ow z) = absurd (false≢true z)

    stepping : (t : ℕ) (b h : Bool) (X : Stepped) → (b ≡ true → Echoes (after P X) (shown t X)) → Echoes (after P (admit b h X)) (shown t (admit b h X))
    stepping t false h X k = stays
    stepping t true true X k = stays
    stepping t true false X k = k refl

    answering : (t : ℕ) (r : Bool) (v : ℤ) (b h : Bool) (X : Stepped) → (b ≡ true → Echoes (after P X) (replied t r v X)) →
        Echoes (after P (admit b h X)) (replied t r v (admit b h X))
    answering t r v false h X k = stays
    answering t r v true true X k = stays
    answering t r v true false X k = k refl

    echo : (x : Act) → Echoes (act (plain_applet p) P x) (sees (plain_applet p) P x)
    echo (Act.step_of t) = stepping t (ltb t (length P.threads)) P.halted _
        (λ e. let h : t < length W.threads = omega (arith, ltb-true t (length P.threads) e, T.wide) in
        by_holder E false T t _ (λ n f. free_echo t h n _ _ refl refl f) (λ n f. held_echo t h _ _ f))
    echo (Act.answer_to t b v) = answering t b v (ltb t (length P.threads)) P.halted _
        (λ e. let h : t < length W.threads = omega (arith, ltb-true t (length P.threads) e, T.wide) in
        by_holder E false T t _ (λ n f. free_reply t h n _ _ b v refl f) (λ n f. held_reply t h n _ _ b v refl f))

  transparent_from : (ys : List Act) {P W : Machine} {c : List ℤ} {o : ℕ → Option Open} → Tied E false P W (Some c) o →
      Takes A c (events A.watched o (trace (plain_applet p) P ys)) → Alone A.watched W.holder (trace (plain_applet p) P ys) →
      (xs : List Act) × (trace (woven_applet A B p) W xs ≡ trace (plain_applet p) P ys)
  transparent_from [] T ta al = ([], refl)
  transparent_from (y ∷ ys) {P} {W} {c} {o} T ta al =
      let e = echo T (trace (plain_applet p) (act (plain_applet p) P y) ys) y ta al in
      let r = transparent_from ys e.tied e.takes e.alone in (
        e.way.acts ++ r.0,
        trace_append (woven_applet A B p) W e.way.acts r.0 ∙ ap₂ (λ a m. a ++ trace (woven_applet A B p) m r.0)
            e.way.same e.way.ends ∙ ap (λ s. sees (plain_applet p) P y ++ s) r.1,
      )

  pub mirrored : Mirrored A (loaded (plain_applet p)) (loaded (woven_applet A B p))
  mirrored = record {
    faithful = faithful E;
    transparent = λ ys ta al. transparent_from ys (tied_fresh E false) ta al;
  }
