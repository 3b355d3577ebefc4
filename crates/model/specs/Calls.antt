-- The calls on a policy: what each answers, and the caller's row of cells or area after it.
use Rattle.std.specs.Prelude.{◌≡◌, ℕ, ◌+◌, ◌*◌, min, Bool, ◌||◌, List, ◌++◌, map, length, take, drop, ℤ, Some, None, Ok, Err, Option, ◌==◌, ◌≢◌, nat_le}
use Rattle.model.specs.declared.Instr.{Instr}
use Rattle.model.specs.declared.Moment.{Moment}
use Rattle.model.specs.declared.Test.{Test}
use Rattle.model.specs.declared.Verdict.{Verdict}
use Rattle.model.specs.declared.Refusal.TheVariants.{AreaTooShort, NoSuchEvent, BlockTooLong, TooManyCells}
use Rattle.model.specs.declared.Event.{Event}
use Rattle.model.specs.Policy.{Automaton, Blocks}
use Rattle.model.specs.Fields.{Read, need, ◌>>=◌, ◌>>◌}
use Rattle.model.specs.Reading.{write_code}
use Rattle.model.specs.Areas.{area_after}

-- the width that a policy tells, in a byte
abbrev pub told_width : Automaton → ℕ
told_width A = min A.width 255

-- the length that it tells of its block for a call and a moment, in two bytes
abbrev pub told_length : Blocks → ℕ → Moment → ℕ
told_length B k t = min (length (B k t 0)) 65535

-- calls go up to 63
abbrev pub known_call : ℕ → Read (Unit {0})
known_call k = need (nat_le k 63) NoSuchEvent

-- whether call k is watched
abbrev pub watched_answer : Automaton → ℕ → Read Bool
watched_answer A k = known_call k >> Ok (A.watched k)

-- a row has room for the policy's cells, of which there are at most 32
abbrev pub roomy_row : Automaton → List ℤ → Read (Unit {0})
roomy_row A row = need (nat_le A.width 32) TooManyCells >> need (nat_le A.width (length row)) AreaTooShort

-- the policy's cells c, then what the row holds past its width
abbrev pub over_row : Automaton → List ℤ → List ℤ → List ℤ
over_row A c row = c ++ drop A.width row

-- the row with the starts in it
abbrev pub started_row : Automaton → List ℤ → Read (List ℤ)
started_row A row = roomy_row A row >> Ok (over_row A A.starts row)

-- writing the starts answers nothing but that it worked
abbrev pub starts_answer : Automaton → List ℤ → Read (Unit {0})
starts_answer A row = roomy_row A row

-- a row after a call: on refusal it is as it was
abbrev pub row_by : List ℤ → Read (List ℤ) → List ℤ
row_by row (Ok new) = new
row_by row (Err r) = row

-- the row after the starts were to be written
abbrev pub starts_row : Automaton → List ℤ → List ℤ
starts_row A row = row_by row (started_row A row)

-- the whole row behind a step that gives cells
abbrev pub whole_row : Automaton → List ℤ → Option (List ℤ) → Option (List ℤ)
whole_row A row None = None
whole_row A row (Some c) = Some (over_row A c row)

-- stepping a row by an event: the row behind it, or none if the policy refuses the event
abbrev pub stepped_row : Automaton → Event → List ℤ → Read (Option (List ℤ))
stepped_row A e row = do
  known_call e.call
  roomy_row A row
  Ok (whole_row A row (A.step e (take A.width row)))

-- an event that gives cells is taken
abbrev pub verdict_of : Option (List ℤ) → Verdict
verdict_of None = Verdict.Refused
verdict_of (Some row) = Verdict.Taken

-- the row behind an event: if the policy refuses it, the row stays
abbrev pub row_behind : List ℤ → Option (List ℤ) → List ℤ
row_behind row None = row
row_behind row (Some new) = new

-- what stepping a row answers
abbrev pub step_answer : Automaton → Event → List ℤ → Read Verdict
step_answer A e row = stepped_row A e row >>= (λ o. Ok (verdict_of o))

-- the row after it was to be stepped
abbrev pub row_after : Automaton → Event → List ℤ → List ℤ
row_after A e row = row_by row (stepped_row A e row >>= (λ o. Ok (row_behind row o)))

-- what stepping a caller's row promises
pub record RowKept (A : Automaton) : Type 0 where
  -- the row is as long as it was
  pub long : (e : Event) (row : List ℤ) → length (row_after A e row) ≡ length row
  -- cells past the width never change
  pub past : (e : Event) (row : List ℤ) → drop A.width (row_after A e row) ≡ drop A.width row
  -- unless the event is taken, the row stays
  pub stays : (e : Event) (row : List ℤ) → (step_answer A e row ≢ Ok Verdict.Taken) → row_after A e row ≡ row

-- a block's bytes, as files have them
abbrev pub block_bytes : List Test → List ℕ
block_bytes b = write_code (map Instr.Test b)

-- the block for a call, a moment and a first cell, into an area of so many bytes
abbrev pub asked_block : Automaton → Blocks → ℕ → Moment → ℕ → ℕ → Read (List Test)
asked_block A B k t first area = do
  known_call k
  need (A.width == 0 || nat_le (first + A.width) 32) TooManyCells
  need (nat_le (length (B k t first)) 1000) BlockTooLong
  need (nat_le (4 * length (B k t first)) area) AreaTooShort
  Ok (B k t first)

-- what writing a block answers: how many instructions it has
abbrev pub block_answer : Automaton → Blocks → ℕ → Moment → ℕ → List ℕ → Read ℕ
block_answer A B k t first area = asked_block A B k t first (length area) >>= (λ b. Ok (length b))

-- the area after a block was to be written: its bytes, then what was there
abbrev pub block_area : Automaton → Blocks → ℕ → Moment → ℕ → List ℕ → List ℕ
block_area A B k t first area = area_after area (asked_block A B k t first (length area) >>= (λ b. Ok (block_bytes b)))
