-- The request of a command line: what clap states of it, and the numbers in it.
pub mod Parsed
pub mod Numerals
pub mod Requests
