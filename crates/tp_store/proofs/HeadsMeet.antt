-- Terms of other cells that are made equal to terms of the store where they stand.
pub mod Equations
pub mod Binding
pub mod Splitting
pub mod Turns
pub mod Logged
