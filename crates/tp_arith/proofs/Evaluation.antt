-- Values of expressions, from single operations on numbers to the steps over a term.
pub mod Bounds
pub mod Comparisons
pub mod Divisions
pub mod Kinds
pub mod Shifts
pub mod Steps
