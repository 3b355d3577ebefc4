-- one turn more of the loops that count
pub mod Counting
