pub mod Asks
pub mod Puts
pub mod Rows
