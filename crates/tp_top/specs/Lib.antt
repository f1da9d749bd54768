pub mod Metered
pub mod Report
pub mod Sample
pub mod Expected
pub mod Written
pub mod Ended
pub mod Replies
pub mod Told
