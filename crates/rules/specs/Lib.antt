-- tokens of expressions
pub mod Tokens
-- fields
pub mod Pieces
-- what the reader finds on its way
pub mod Reader
-- rules and updates as parts of a file
pub mod Views
-- values on a stack
pub mod Values
-- what a search for the rule that acts finds
pub mod Steps
-- instructions written into an area
pub mod Writer
-- where the rules for each call and moment stand
pub mod Index
