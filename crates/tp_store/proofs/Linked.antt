-- Links of variables, and the bindings that they stand for.
pub mod Links
pub mod Places
