pub mod Loading
pub mod Taking
pub mod Clauses
pub mod Lists
pub mod Matching
