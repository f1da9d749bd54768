-- Classes of characters, and runs of a class.
pub mod Ascii
pub mod Runs
