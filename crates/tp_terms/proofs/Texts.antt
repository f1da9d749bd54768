-- Texts that are added piece by piece, and when they are equal.
pub mod Added
pub mod Equal
