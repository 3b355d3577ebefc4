-- what an opcode tells
pub mod Opcodes
-- woven indices
pub mod Starts
-- bytes written one after the other
pub mod Bytes
-- sites in bytes
pub mod SiteBytes
-- the woven code of a method
pub mod WovenMethod
-- the passes over an applet
pub mod Passes
-- the woven file
pub mod WovenFile
-- weave, from bytes to bytes
pub mod WholeWeave
