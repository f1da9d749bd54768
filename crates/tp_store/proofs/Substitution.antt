-- The substitution that chained bindings stand for, and what keeps it.
pub mod Chained
pub mod Kept
pub mod Taken
pub mod Closed
