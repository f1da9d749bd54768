-- The body of a goal over cells.
pub mod Converted
