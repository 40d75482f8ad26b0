pub mod Bits
pub mod Scans
pub mod Race
