-- Facts that hold of every store.
pub mod Fits
pub mod Nameless
pub mod Facts
