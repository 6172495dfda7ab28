pub mod Histories
pub mod Masks
pub mod Saved
pub mod Worked
