pub mod OfHistories
pub mod Ranges
pub mod Standing
pub mod Marking
pub mod SavedWindows
