pub mod Places
pub mod Cleared
