-- The goals that the language has of its own.
pub mod Found
pub mod Reserved
pub mod Counts
pub mod Operations
