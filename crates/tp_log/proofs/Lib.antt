pub mod EntryAdded
pub mod Fronts
