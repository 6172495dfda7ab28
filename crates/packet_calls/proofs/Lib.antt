pub mod Refused
pub mod Received
