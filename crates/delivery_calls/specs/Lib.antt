pub mod Credits
pub mod Receives
