-- a method's instructions, and how many stand for each in the woven code
pub mod Pieces
-- the weaving of an applet that was read
pub mod Weaves
-- methods, one after the other
pub mod Steps
-- woven indices that were filled in
pub mod Indices
-- what a pen writes
pub mod Pens
