pub mod Changes
pub mod Opening
pub mod Requests
pub mod Plain
