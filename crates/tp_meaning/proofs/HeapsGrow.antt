-- What stays where a heap or its trail grows, and where a term is copied.
pub mod Cells
pub mod Trails
pub mod Copies
