pub mod Index
pub mod Search
pub mod Laws
pub mod Chain
