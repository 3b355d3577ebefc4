-- Sites in woven code: which instruction may follow which, and what an instruction stands for.
use Rattle.std.specs.Prelude.{◌≡◌, ℕ, ◌+◌, ◌*◌, ◌/◌, Bool, true, false, cond, ◌&&◌, ◌||◌, List, length, Some, None, Option, ◌==◌, nat_le, nat_lt, slice_index}
use Rattle.opcodes.specs.declared.words.Word.{Word}
use Rattle.station.specs.declared.sites.Spot.{Spot}
use Rattle.station.specs.declared.sites.Site.{Site}

-- an opcode that may stand in a block
abbrev pub is_test : ℕ → Bool
is_test op = nat_le 34 op && nat_le op 41

-- a spot, if it has this opcode
abbrev pub just : ℕ → ℕ → Spot → Option Spot
just op only s = cond (op == only) (Some s) None

-- in a block, or behind it at the opcode that ends it
abbrev pub block_or : ℕ → Spot → ℕ → Spot → Option Spot
block_or op block end behind = cond (is_test op) (Some block) (just op end behind)

-- where an instruction stands that follows a spot: LOCK, block, HOST, block, UNLOCK, SKIP, block,
-- UNLOCK, JUMP
abbrev pub next_spot : Spot → ℕ → Option Spot
next_spot Spot.Lock op = block_or op Spot.Before 13 Spot.Call
next_spot Spot.Before op = block_or op Spot.Before 13 Spot.Call
next_spot Spot.Call op = block_or op Spot.After 33 Spot.Free
next_spot Spot.After op = block_or op Spot.After 33 Spot.Free
next_spot Spot.Free op = just op 34 Spot.Over
next_spot Spot.Over op = block_or op Spot.Raised 33 Spot.FreeRaised
next_spot Spot.Raised op = block_or op Spot.Raised 33 Spot.FreeRaised
next_spot Spot.FreeRaised op = just op 9 Spot.Back
next_spot Spot.Back op = None

-- the operands that a site fixes at a spot
abbrev pub spot_fits : Spot → Word → Site → Bool
spot_fits Spot.Lock w s = w.x == s.call
spot_fits Spot.Before w s = true
spot_fits Spot.Call w s = w.x == s.call && w.y == s.raised
spot_fits Spot.After w s = true
spot_fits Spot.Free w s = true
spot_fits Spot.Over w s = w.y == s.over
spot_fits Spot.Raised w s = true
spot_fits Spot.FreeRaised w s = true
spot_fits Spot.Back w s = w.y == s.back

-- a site of a call, whose raised leg goes on at `back`
abbrev pub SiteFor : ℕ → ℕ → Site → Type 0
SiteFor call back s = (s.call ≡ call) × (s.back ≡ back)

-- JUMP, BRZ and HOST have a target
abbrev pub has_target : ℕ → Bool
has_target op = op == 9 || (op == 10 || op == 13)

-- an instruction of woven code is one of a plain applet, its target being t now
abbrev pub same_word : Word → Word → ℕ → Bool
same_word p w t =
    cond (nat_lt p.op 32 && (p.op == w.op && p.x == w.x))
    (cond (has_target p.op) (w.y == t) (w.y == p.y))
    false

-- the instruction at an index of a method's code
abbrev pub word_at : List ℕ → ℕ → Option Word
word_at code i =
    cond (nat_le (length code / 4) i) None
    (Some (record { op = slice_index code (4 * i); x = slice_index code (4 * i + 1); y = slice_index code (4 * i + 2) * 256 + slice_index code (4 * i + 3) }))
