pub mod Below
pub mod Bytes
pub mod Answers
pub mod Returns
