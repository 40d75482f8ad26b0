pub mod Seats
pub mod Whole
