pub mod Worlds
pub mod Step
pub mod Enters
pub mod GoesBack
pub mod Grows
pub mod Meets
pub mod Gives
pub mod Trying
