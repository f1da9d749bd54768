pub mod Processes
pub mod Tree
