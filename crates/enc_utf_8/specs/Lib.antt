pub mod Buffer
pub mod Utf8
