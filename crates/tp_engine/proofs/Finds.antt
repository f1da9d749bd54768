-- A run finds what the search finds.
pub mod Turns
pub mod Taken
pub mod Runs
