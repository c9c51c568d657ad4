pub mod Walk
pub mod Reads
pub mod Reached
pub mod Scratch
pub mod State
