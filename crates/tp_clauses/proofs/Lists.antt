-- The lists that a base keeps give the candidates of each first argument.
pub mod Fitting
pub mod Kept
pub mod Chosen
pub mod Merged
pub mod Spans
pub mod Keys
pub mod Grouped
pub mod Turns
