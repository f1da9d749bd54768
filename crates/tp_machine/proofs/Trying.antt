-- The clauses that a goal is tried with.
pub mod Lists
pub mod Split
pub mod Found
pub mod Runs
