pub mod Errors
pub mod Work
pub mod Values
