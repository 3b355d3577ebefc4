-- An instruction judged by the row of its opcode.
use Rattle.std.specs.Prelude.{ℕ, ◌+◌, Bool, cond, not, ◌&&◌, ◌||◌, Some, None, Ok, Err, Option, nat_lt}
use Rattle.model.specs.declared.Instr.{Instr}
use Rattle.model.specs.declared.Refusal.TheVariants.{BadInstruction, BadLanding}
use Rattle.model.specs.Words.{leads}
use Rattle.model.specs.Fields.{Read, refuse}
use Rattle.opcodes.specs.Table.{Row, row_fits}

-- an instruction that was read, forgotten
abbrev pub passed : Read Instr → Read (Unit {0}) → Read (Unit {0})
passed (Ok c) r = r
passed (Err e) r = Err e

-- where an instruction leads lies in the method of that size, by the row of its opcode
abbrev pub row_lands : ℕ → ℕ → Row → ℕ → Bool
row_lands size i r y = leads size i y r.y && (not r.falls || nat_lt (i + 1) size)

-- an instruction by the row of its opcode
abbrev pub row_judged : ℕ → ℕ → ℕ → ℕ → ℕ → ℕ → Option Row → Read (Unit {0})
row_judged n size i p x y None = refuse (BadInstruction p)
row_judged n size i p x y (Some r) = cond (row_fits n r x y) (cond (row_lands size i r y) (Ok tt) (refuse (BadLanding p))) (refuse (BadInstruction p))
