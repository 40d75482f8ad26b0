pub mod Retains
