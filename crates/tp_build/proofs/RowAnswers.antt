-- What each row of a built-in answers on a heap.
pub mod Argument
pub mod Codes
pub mod Functor
pub mod Parts
pub mod Heaps
pub mod Counts
