-- The parts of a run, up to its clause.
pub mod Parts
pub mod Expected
pub mod Written
pub mod Printed
pub mod StoreUnder
pub mod Samples
