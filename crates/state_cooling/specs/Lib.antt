pub mod Cooled
