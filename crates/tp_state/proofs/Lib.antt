pub mod GoingBack
pub mod Changes
pub mod Marked
pub mod Plans
