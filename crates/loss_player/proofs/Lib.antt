mod PlayedPackets
pub mod Tallies
pub mod PlayCourses
