pub mod Knowing
pub mod Appending
