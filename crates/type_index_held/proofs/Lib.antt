-- Laws that the functions' proofs cite; `Holds` is for the crates above too.
mod Fills
pub mod Holds
