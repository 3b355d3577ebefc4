-- registers and frames
pub mod Calling
-- threads
pub mod Rows
-- the instruction at an index
pub mod Fetching
-- threads that were just started
pub mod Started
-- what is seen of acts
pub mod Traces
