-- files for the tests of weaving, and what weaving answers
pub mod Files
