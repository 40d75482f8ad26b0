pub mod Found
pub mod Notes
pub mod Request
pub mod Promises
pub mod Turns
pub mod Proposes
