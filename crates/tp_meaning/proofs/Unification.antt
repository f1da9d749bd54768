-- What the solving of equations gives: it ends, it finds the most general unifier wherever there is one, and there is only one.
pub mod Applied
pub mod Complete
pub mod Made
pub mod OneUnifier
pub mod Pairs
pub mod Replaced
pub mod Solved
pub mod Under
