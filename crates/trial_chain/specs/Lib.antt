pub mod Draws
pub mod Trials
pub mod Stages
