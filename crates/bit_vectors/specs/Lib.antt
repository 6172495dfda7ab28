pub mod Vectors
pub mod Words
pub mod Pen
pub mod Reading
