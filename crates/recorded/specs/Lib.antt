pub mod Each
pub mod Stream
pub mod Args
pub mod Records
pub mod Input
pub mod Same
pub mod Said
