-- The numbers that a write answers with.
pub mod Told
pub mod Given
