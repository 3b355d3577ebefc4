-- the states in rows of state tables, and the tests of their blocks
pub mod States
-- rows of state tables, as they are read
pub mod Rows
-- the reading of state tables, step by step
pub mod Reading
