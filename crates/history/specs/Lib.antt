pub mod Run
pub mod Book
pub mod Reports
pub mod Order
pub mod Claim
