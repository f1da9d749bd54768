-- The goals of processes: each of their worlds follows.
pub mod Slots
pub mod Waits
pub mod Creates
pub mod Sends
pub mod Acts
