pub mod Both
pub mod Written
pub mod Reader
