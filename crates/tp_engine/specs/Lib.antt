pub mod Code
pub mod Told
pub mod Phases
pub mod Answers
pub mod Ended
pub mod Run
