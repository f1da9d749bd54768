pub mod Back
pub mod Names
pub mod Text
pub mod Under
pub mod Work
