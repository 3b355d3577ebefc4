-- the reading of an applet, place by place
pub mod Stages
-- the quick test of an instruction
pub mod Glances
-- an applet that was read
pub mod Applets
