pub mod TextRows
pub mod Words
pub mod TableCourses
