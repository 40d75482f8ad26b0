pub mod Rejects
pub mod Credits
