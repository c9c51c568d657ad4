pub mod Append
pub mod Same
