pub mod Calls
pub mod Finds
pub mod GoalsRead
