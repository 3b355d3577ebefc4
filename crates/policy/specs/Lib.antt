-- what the calls on any policy refuse first, and bytes written at a place of an area
pub mod Calls
-- fields of policy files, as the code has them
pub mod Pieces
-- fields of one tag, one behind the other
pub mod Rows
