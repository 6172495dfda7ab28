pub mod Sending
pub mod Refusals
pub mod States
