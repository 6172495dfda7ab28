pub mod Changes
pub mod Histories
pub mod Window
pub mod Saved
pub mod Worked
