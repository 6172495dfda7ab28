pub mod Cells
pub mod Rows
pub mod Texts
pub mod Line
pub mod Tabling
pub mod Worked
