-- The watch: one policy kept beside a run.
use Rattle.std.specs.Prelude.{◌≡◌, ◌≤◌, Bool, true, false, cond, List, [], ◌∷◌, ℤ, Ok, Err, Option, ◌≢◌}
use Rattle.std.specs.List.{AllByRecursion}
use Rattle.model.specs.declared.Moment.{Moment}
use Rattle.model.specs.declared.Refusal.{Refusal}
use Rattle.model.specs.declared.Verdict.{Verdict}
use Rattle.model.specs.Moments.{is_before}
use Rattle.model.specs.declared.Event.{Event}
use Rattle.model.specs.Policy.{Automaton}
use Rattle.model.specs.Runs.{Accepts}
use Rattle.model.specs.Fields.{Read, ◌>>=◌}
use Rattle.model.specs.Calls.{started_row, stepped_row, verdict_of, row_behind}

-- the caller's row of cells, and whether the watch was begun
pub record Watch : Type 0 where
  pub cells : List ℤ
  pub begun : Bool

-- a watch that was not begun, with the row s
abbrev pub unbegun : List ℤ → Watch
unbegun s = record { cells = s; begun = false }

-- a watch that was begun, with the row s
abbrev pub watching : List ℤ → Watch
watching s = record { cells = s; begun = true }

-- begin writes the starts; it may come at any time
abbrev pub begin : Automaton → Watch → Read Watch
begin A w = started_row A w.cells >>= (λ s. Ok (watching s))

-- a watch after a call: on refusal it is as it was
abbrev pub watch_by : Watch → Read Watch → Watch
watch_by w (Ok v) = v
watch_by w (Err r) = w

-- begin answers nothing but that it worked
abbrev pub begin_answer : Automaton → Watch → Read (Unit {0})
begin_answer A w = begin A w >>= (λ v. Ok tt)

-- the watch after begin
abbrev pub begun_after : Automaton → Watch → Watch
begun_after A w = watch_by w (begin A w)

-- a verdict, and the watch behind it
pub record Judged : Type 0 where
  pub verdict : Verdict
  pub watch : Watch

-- a watch that was begun goes on behind an event that is taken and behind a refused before event; a refused answer ends it
abbrev pub goes_on : Verdict → Moment → Bool
goes_on Verdict.Taken t = true
goes_on Verdict.Refused t = is_before t

-- by what the step of its row gives; unbegun it refuses all
abbrev pub judged : Moment → Watch → Option (List ℤ) → Bool → Judged
judged t w o false = record { verdict = Verdict.Refused; watch = w }
judged t w o true = record { verdict = verdict_of o; watch = record { cells = row_behind w.cells o; begun = goes_on (verdict_of o) t } }

-- judge steps the row; the refusals of a step come first
abbrev pub judge : Automaton → Watch → Event → Read Judged
judge A w e = stepped_row A e w.cells >>= (λ o. Ok (judged e.moment w o w.begun))

-- what judge answers
abbrev pub judge_answer : Automaton → Watch → Event → Read Verdict
judge_answer A w e = judge A w e >>= (λ j. Ok j.verdict)

-- the watch after judge
abbrev pub judged_after : Automaton → Watch → Event → Watch
judged_after A w e = watch_by w (judge A w e >>= (λ j. Ok j.watch))

-- the answers of a watch to events, one after the other
abbrev pub answers : Automaton → Watch → List Event → List (Read Verdict)
answers A w [] = []
answers A w (e ∷ es) = judge_answer A w e ∷ answers A (judged_after A w e) es

-- by the answers to events: every before event is taken, and none follows an after or raised event that is not
abbrev pub AllWell : List Event → List (Read Verdict) → Type 0
AllWell [] vs = Unit {0}
AllWell (e ∷ es) [] = ⊥
AllWell (e ∷ es) (Ok Verdict.Taken ∷ vs) = AllWell es vs
AllWell (e ∷ es) (Ok Verdict.Refused ∷ vs) = cond (is_before e.moment) ⊥ (es ≡ [])
AllWell (e ∷ es) (Err r ∷ vs) = ⊥

-- what the watch of a policy promises
pub record Watches (A : Automaton) : Type 0 where
  -- if the policy accepts the events of calls up to 63, then all is well by the answers of a watch from begin on
  pub well : (w v : Watch) → begin A w ≡ Ok v → (es : List Event) → AllByRecursion (λ e. e.call ≤ 63) es → Accepts A A.starts es → AllWell es (answers A v es)
  -- and the other way round
  pub accepts : (w v : Watch) → begin A w ≡ Ok v → (es : List Event) → AllWell es (answers A v es) → Accepts A A.starts es
  -- where the call itself is refused, the watch stays as it is
  pub kept : (w : Watch) (e : Event) (r : Refusal) → judge_answer A w e ≡ Err r → judged_after A w e ≡ w
  -- a refused before event leaves it as it is
  pub stays : (w : Watch) (e : Event) → judge_answer A w e ≡ Ok Verdict.Refused → e.moment ≡ Moment.Before → judged_after A w e ≡ w
  -- a refused answer ends it, and its row stays
  pub ends : (w : Watch) (e : Event) → judge_answer A w e ≡ Ok Verdict.Refused → (e.moment ≢ Moment.Before) → judged_after A w e ≡ unbegun w.cells
  -- unbegun it takes no event, and stays unbegun
  pub refuses : (s : List ℤ) (e : Event) → judge_answer A (unbegun s) e ≢ Ok Verdict.Taken
  pub waits : (s : List ℤ) (e : Event) → judged_after A (unbegun s) e ≡ unbegun s
