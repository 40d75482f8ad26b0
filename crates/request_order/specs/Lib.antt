pub mod Bags
pub mod Order
pub mod Rows
