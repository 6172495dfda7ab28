pub mod Received
pub mod MultiCourses
pub mod Lines
pub mod RowsApart
pub mod StreamsApart
pub mod MultiRuns
