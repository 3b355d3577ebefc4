-- The rows of the code's table, as the model's list of opcodes has them.
use Rattle.std.specs.Prelude.{ℕ, Bool, false, ◌&&◌, nat_lt}
use Rattle.opcodes.specs.declared.table.Kind.{Kind}
use Rattle.opcodes.specs.declared.table.Kind.TheVariants.{Dash, Register, Shared, Scratch, Cell, Call, Argument, Operator, Signed, Target, Count, Method}
use Rattle.opcodes.specs.declared.table.Operand.{Operand}
use Rattle.opcodes.specs.declared.table.Entry.{Entry}
use Rattle.model.specs.Words as words

-- a row by its numbers: opcode, operands, whether a thread may go on behind it
pub record Row : Type 0 where
  pub op : ℕ
  pub x : words.Operand
  pub y : words.Operand
  pub falls : Bool

-- an operand of a kind, with its limit
abbrev pub operand : Kind → ℕ → words.Operand
operand Dash l = words.under l
operand Register l = words.under l
operand Shared l = words.under l
operand Scratch l = words.under l
operand Cell l = words.under l
operand Call l = words.under l
operand Argument l = words.under l
operand Operator l = words.under l
operand Signed l = words.Operand.signed
operand Target l = words.Operand.target
operand Count l = words.Operand.count
operand Method l = words.Operand.method

-- an opcode with its operands, as the code's table lists it
abbrev pub listed : (ℕ × Operand × Operand × Bool) → Entry
listed r = record { op = r.0; x = r.1; y = r.2; falls = r.3 }

-- a row of the code's table
abbrev pub row : Entry → Row
row e = record { op = e.op; x = operand e.x.kind e.x.limit; y = operand e.y.kind e.y.limit; falls = e.falls }

-- a row of the model's list
abbrev pub ranges : words.Entry → Row
ranges e = record { op = e.op; x = e.x; y = e.y; falls = e.falls }

-- what stands past the end of the list
abbrev pub no_row : Row
no_row = record { op = 0; x = words.under 0; y = words.under 0; falls = false }

-- both operands lie in the ranges of a row, where there are n methods
abbrev pub row_fits : ℕ → Row → ℕ → ℕ → Bool
row_fits n r x y = nat_lt x (words.limit n r.x) && nat_lt y (words.limit n r.y)
