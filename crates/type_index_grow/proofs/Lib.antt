-- Laws that the functions' proofs cite; `Kept` and `Grows` are for the crates above too.
mod Ends
pub mod Kept
pub mod Grows
