-- Worked rows, computed from the definitions alone.
pub mod OneProcess
pub mod Arithmetic
pub mod Control
pub mod Parts
pub mod Processes
pub mod Seen
