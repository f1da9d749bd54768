-- The cells that are made show the tree with its variables numbered, and add no name that it has not.
pub mod Variables
pub mod Cells
pub mod NewNames
