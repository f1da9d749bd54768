pub mod Running
pub mod Metering
