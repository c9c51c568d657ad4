pub mod Unit16
pub mod Decode
pub mod Encode
pub mod WString
pub mod Step
