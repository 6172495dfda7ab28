pub mod Code
pub mod Counts
