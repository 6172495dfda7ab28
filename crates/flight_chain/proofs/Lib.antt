pub mod Recordings
pub mod CompressCourses
