pub mod Logs
pub mod Follows
pub mod Undoing
pub mod Bindings
