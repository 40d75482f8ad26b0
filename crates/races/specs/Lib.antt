pub mod Flags
pub mod Hedges
