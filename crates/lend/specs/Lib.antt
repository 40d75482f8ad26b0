pub mod Blank
pub mod Cases
pub mod Goes
