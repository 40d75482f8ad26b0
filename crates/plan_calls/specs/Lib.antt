pub mod Plans
pub mod Refused
