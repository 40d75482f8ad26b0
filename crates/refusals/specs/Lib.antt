pub mod Tests
pub mod Outcomes
pub mod Passed
pub mod Arrays
