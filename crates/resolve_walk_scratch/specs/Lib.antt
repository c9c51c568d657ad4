pub mod Parts
pub mod Scratch
