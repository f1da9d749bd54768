pub mod Count
pub mod Files
pub mod Taken
pub mod Text
pub mod Memory
pub mod System
