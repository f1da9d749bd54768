-- What is bound is the most general unifier.
pub mod Work
pub mod Steps
pub mod Solutions
pub mod General
