-- fields and their kinds, as the field reader hands them out
pub mod Parts
