-- what a reading answers
pub mod Answers
