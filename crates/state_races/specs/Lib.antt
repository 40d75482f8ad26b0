pub mod Hedges
