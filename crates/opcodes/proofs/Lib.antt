-- the table of opcodes
pub mod Opcodes
-- the instruction of four bytes
pub mod Decoding
