pub mod Removes
