-- the loops of the reader
pub mod Loops
-- the reading of an applet, place by place, is the model's
pub mod Expected
pub mod Staging
-- the quick test of an instruction
pub mod Glancing
