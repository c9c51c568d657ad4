-- Laws that the functions' proofs cite.
pub mod Numbers
mod Blocks
mod Checks
pub mod Valid
pub mod Append
pub mod Roots
pub mod Givens
