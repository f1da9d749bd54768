-- A read term is taken as its term tells.
pub mod Terms
pub mod StartNames
pub mod Variables
pub mod Directives
