-- Goals that are begun, entered and called, with their parts.
pub mod Begun
pub mod Entered
pub mod Entering
pub mod Calling
pub mod GoalsMet
pub mod Parted
