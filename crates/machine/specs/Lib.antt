-- what the stored machine means
pub mod Views
-- operands in their ranges
pub mod Ranges
-- the machine as its host sees it
pub mod Machines
-- acts and what is seen
pub mod Acts
-- where a thread stands
pub mod Positions
