pub mod Owned
pub mod Statuses
pub mod Kinds
pub mod Answers
pub mod Verdicts
pub mod Bench
pub mod CommandDesk
pub mod Running
