-- the table of opcodes
pub mod Table
-- instructions as numbers
pub mod Instructions
-- an instruction judged by the row of its opcode
pub mod Judging
