pub mod Resets
pub mod Extracts
