pub mod Scan
pub mod Plan
pub mod Steps
