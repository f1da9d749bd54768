-- What places show: cells as they are kept, bindings that fit them, and what stays where more is added.
pub mod Bound
pub mod Kept
pub mod Shown
