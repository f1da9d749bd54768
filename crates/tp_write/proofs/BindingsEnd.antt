-- Following bindings comes to an end: replacing again and again, the term of a place under bindings, and the chain from a
-- place.
pub mod Times
pub mod Under
pub mod Chains
