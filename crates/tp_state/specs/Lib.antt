pub mod Plain
pub mod Stands
pub mod Acts
pub mod Undo
pub mod Going
pub mod State
pub mod Start
