-- Instructions as numbers, and what the code makes of an opcode.
use Rattle.std.specs.Prelude.{ℕ, ◌%◌, cond, Some, None, Option, ◌==◌}
use Rattle.std.specs.Int.{w16}
use Rattle.std.proofs.Common.{to_z}
use Rattle.model.specs.declared.Own.{Own}
use Rattle.model.specs.declared.Test.{Test}
use Rattle.model.specs.declared.Instr.{Instr}
use Rattle.model.specs.Words as words
use Rattle.model.specs.Words.{operator_of}
use Rattle.opcodes.specs.declared.words.Word.{Word}

-- opcode and operands
abbrev pub numbers : Word → words.Word
numbers w = words.wd w.op w.x w.y

-- the instruction of an opcode, an operand of one byte being the low one of y
abbrev pub instr_of : ℕ → ℕ → ℕ → Option Instr
instr_of op x y =
    cond (op == 0x01) (Some (Instr.Own (Own.Set x (to_z w16 y))))
    (cond (op == 0x02) (Some (Instr.Own (Own.Mov x (y % 256))))
    (cond (op == 0x03) (Some (Instr.Own (Own.Add x (y % 256))))
    (cond (op == 0x04) (Some (Instr.Own (Own.Sub x (y % 256))))
    (cond (op == 0x05) (Some (Instr.Own (Own.Lt x (y % 256))))
    (cond (op == 0x06) (Some (Instr.Own (Own.Eq x (y % 256))))
    (cond (op == 0x07) (Some (Instr.Own (Own.Get x (y % 256))))
    (cond (op == 0x08) (Some (Instr.Own (Own.Put x (y % 256))))
    (cond (op == 0x09) (Some (Instr.Own (Own.Jump y)))
    (cond (op == 0x0A) (Some (Instr.Own (Own.Brz x y)))
    (cond (op == 0x0B) (Some (Instr.Own (Own.Call (y % 256))))
    (cond (op == 0x0C) (Some (Instr.Own Own.Ret))
    (cond (op == 0x0D) (Some (Instr.Own (Own.Host x y)))
    (cond (op == 0x0E) (Some (Instr.Own Own.End))
    (cond (op == 0x20) (Some (Instr.Lock x))
    (cond (op == 0x21) (Some Instr.Unlock)
    (cond (op == 0x22) (Some (Instr.Test (Test.Skip y)))
    (cond (op == 0x23) (Some (Instr.Test (Test.Skz x y)))
    (cond (op == 0x24) (Some (Instr.Test Test.Viol))
    (cond (op == 0x25) (Some (Instr.Test (Test.Mset x (to_z w16 y))))
    (cond (op == 0x26) (Some (Instr.Test (Test.Mcell x (y % 256))))
    (cond (op == 0x27) (Some (Instr.Test (Test.Marg x (y % 256))))
    (cond (op == 0x28) (Some (Instr.Test (Test.Store x (y % 256))))
    (cond (op == 0x29) (Some (Instr.Test (Test.Op x (operator_of (y % 256)))))
    None)))))))))))))))))))))))
