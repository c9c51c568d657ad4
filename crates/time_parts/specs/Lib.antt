pub mod Parts
pub mod Nanoseconds
pub mod Laws
