pub mod Adds
pub mod State
