pub mod Prospects
pub mod Stretches
pub mod Outlooks
pub mod Worked
