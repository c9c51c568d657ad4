pub mod Stored
pub mod Named
