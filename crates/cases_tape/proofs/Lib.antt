-- The worked examples.
pub mod Tapes
