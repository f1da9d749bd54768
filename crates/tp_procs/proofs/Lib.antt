pub mod Joined
pub mod FirstNode
pub mod Mended
pub mod Kept
