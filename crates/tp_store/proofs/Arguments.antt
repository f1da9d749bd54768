-- The arguments of goals that are given further ones.
pub mod Joined
