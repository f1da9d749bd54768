-- A clause stands behind the others, and the index has its place.
pub mod Added
pub mod Moved
pub mod Places
pub mod Ranks
pub mod Rising
