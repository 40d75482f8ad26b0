pub mod Listed
pub mod Answer
