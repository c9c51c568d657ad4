pub mod Le
pub mod Answer
pub mod Refusals
