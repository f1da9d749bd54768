pub mod Number
pub mod Command
pub mod Request
pub mod Asked
