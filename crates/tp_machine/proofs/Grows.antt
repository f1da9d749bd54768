-- What stays of a machine whose store, names or program grow.
pub mod Grown
pub mod Later
pub mod SamePrograms
pub mod Lent
pub mod Failure
pub mod Again
