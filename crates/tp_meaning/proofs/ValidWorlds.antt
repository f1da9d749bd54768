-- Each world of a step of a valid world is valid, with the next stamp.
pub mod Acts
pub mod Goes
pub mod Keeps
pub mod Leaves
pub mod Rise
pub mod Holds
pub mod Places
pub mod BuiltIns
