-- The standard order of what places show.
pub mod Texts
pub mod Ranked
