-- Laws that the functions' proofs cite, and how long figures are.
pub mod Joins
mod Numerals
pub mod Lengths
