pub mod ReadsWhole
pub mod WritesWhole
pub mod InMemory
pub mod Untold
