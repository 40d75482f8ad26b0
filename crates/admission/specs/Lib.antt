pub mod Admits
pub mod Opening
pub mod Content
pub mod Alternates
pub mod Given
