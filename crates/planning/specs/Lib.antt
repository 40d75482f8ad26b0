pub mod Proposes
pub mod Swept
pub mod Rows
