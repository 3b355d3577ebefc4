-- tokens and expressions
pub mod Expressions
-- the reader's loops
pub mod Reading
-- rules and updates as parts of a file
pub mod Shown
-- how long blocks are
pub mod Lengths
-- the reading of a rule policy
pub mod Checking
-- the values of an expression, on a stack
pub mod Stack
-- rules for an event, one after the other
pub mod Acts
-- instructions written one after the other
pub mod Wrote
-- start values in four bytes each
pub mod Starts
-- where the rules for a call and a moment stand
pub mod Indexing
-- the policy that refuses every call
pub mod Refusing
-- a test of each of the rules, one after the other
pub mod Walks
