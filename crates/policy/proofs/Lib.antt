-- bytes written one after the other
pub mod Writes
-- the calls on any policy, by the tests before them
pub mod Asked
-- the calls on a pair
pub mod Pairs
-- the limits of a policy
pub mod WithinLimits
-- the calls on a watch
pub mod Watched
-- fields at places of a holder
pub mod Places
