-- Clauses that aren't candidates have no unifier with the goal.
pub mod Clash
pub mod Tried
