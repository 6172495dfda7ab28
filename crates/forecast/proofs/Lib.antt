pub mod Foresight
pub mod Stretches
