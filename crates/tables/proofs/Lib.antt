-- rows of state tables, their steps and their blocks
pub mod TableRows
-- the reading of state tables
pub mod TableReading
