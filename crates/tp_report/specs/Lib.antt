pub mod Report
pub mod Seen
pub mod Lines
pub mod Pieces
pub mod End
pub mod Worlds
