pub mod Values
pub mod CommandDesks
pub mod Runs
