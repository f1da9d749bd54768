-- What the places of a built-in's arguments show.
pub mod Checked
pub mod Lists
pub mod Seen
pub mod Unified
