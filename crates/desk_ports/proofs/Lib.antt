pub mod Courses
pub mod Steps
pub mod Desks
pub mod Logs
