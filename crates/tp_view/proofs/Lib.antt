pub mod Heaps
pub mod Grown
