pub mod Types
pub mod Counts
