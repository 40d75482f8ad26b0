pub mod Steps
pub mod Told
