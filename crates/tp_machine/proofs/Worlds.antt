-- What acts on contents do to the world that they stand for.
pub mod Items
pub mod Stores
pub mod Procs
pub mod Names
pub mod Plans
pub mod Mail
pub mod Made
