pub mod Rows
pub mod Ranks
pub mod Columns
pub mod Texts
pub mod Numbers
pub mod Grammar
pub mod Streams
