-- Laws that the functions' proofs cite; `Numbers` is for the crates above too.
mod Ends
pub mod Numbers
