pub mod Asks
pub mod Seated
