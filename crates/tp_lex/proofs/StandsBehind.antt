pub mod Ends
pub mod NextToken
