pub mod Text
pub mod Given
pub mod Kept
