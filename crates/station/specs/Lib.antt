-- sites in woven code, and policies of whichever kind
pub mod Sites
pub mod Held
