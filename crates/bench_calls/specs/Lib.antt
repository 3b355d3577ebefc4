-- what a reading answers
pub mod Answers
-- what the loops count
pub mod Counts
