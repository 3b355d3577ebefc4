-- policies of whichever kind, from their files
pub mod Held
