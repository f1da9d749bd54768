-- What a copy shows, and the cells that it adds.
pub mod Rows
pub mod Tasks
pub mod Sources
pub mod Variables
pub mod Fresh
