-- Copies of terms whose cells stand together.
pub mod Cells
pub mod Moved
