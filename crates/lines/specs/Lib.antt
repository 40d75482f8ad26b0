pub mod Cells
pub mod Words
pub mod Rows
