-- Tables of names: they grow, they begin with the names of the start, and these have constants.
pub mod Tables
pub mod Start
pub mod Constants
