pub mod Extraction
pub mod Runs
