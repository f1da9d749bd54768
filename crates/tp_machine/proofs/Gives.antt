-- Terms, numbers and times that a goal gives.
pub mod Next
pub mod Times
pub mod Raised
