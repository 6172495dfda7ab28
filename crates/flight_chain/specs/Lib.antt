pub mod Recordings
pub mod Reading
pub mod Compressing
