-- What the calls on any policy refuse before the policy itself is asked, and bytes written at a place of an area.
use Rattle.std.specs.Prelude.{ℕ, ◌+◌, ◌*◌, Bool, true, false, cond, ◌||◌, List, ◌++◌, length, take, drop, Ok, Err, ◌==◌, nat_le}
use Rattle.model.specs.declared.Refusal.TheVariants.{AreaTooShort, NoSuchEvent, BlockTooLong, TooManyCells}
use Rattle.model.specs.declared.Verdict.{Verdict}
use Rattle.model.specs.Fields.{Read}

-- a policy of w cells, in a row of so many
abbrev pub may_start : ℕ → ℕ → Read (Unit {0})
may_start w room = cond (nat_le w 32) (cond (nat_le w room) (Ok tt) (Err AreaTooShort)) (Err TooManyCells)

-- a step by call k
abbrev pub may_step : ℕ → ℕ → ℕ → Read (Unit {0})
may_step k w room = cond (nat_le k 63) (may_start w room) (Err NoSuchEvent)

-- a block of n instructions for call k, the cells from f on, in an area of so many bytes
abbrev pub may_write : ℕ → ℕ → ℕ → ℕ → ℕ → Read (Unit {0})
may_write k w f n room =
    cond (nat_le k 63)
    (cond (w == 0 || nat_le (f + w) 32) (cond (nat_le n 1000) (cond (nat_le (4 * n) room) (Ok tt) (Err AreaTooShort)) (Err BlockTooLong)) (Err TooManyCells))
    (Err NoSuchEvent)

-- bytes written at a place of an area
abbrev pub put_at : List ℕ → ℕ → List ℕ → List ℕ
put_at area at bytes = take at area ++ (bytes ++ drop (at + length bytes) area)

-- the same where there is room for them; else the area stays
abbrev pub put_if_room : List ℕ → ℕ → List ℕ → List ℕ
put_if_room area at bytes = cond (nat_le (at + length bytes) (length area)) (put_at area at bytes) area

-- the place behind what was written
abbrev pub behind_put : List ℕ → ℕ → List ℕ → ℕ
behind_put area at bytes = cond (nat_le (at + length bytes) (length area)) (at + length bytes) at

-- a step's answer says that the event is taken
abbrev pub is_taken : Read Verdict → Bool
is_taken (Ok Verdict.Taken) = true
is_taken (Ok Verdict.Refused) = false
is_taken (Err r) = false
