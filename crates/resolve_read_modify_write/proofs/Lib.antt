-- Laws that the functions' proofs cite, and those on the answer that the crates above cite.
mod Rmws
pub mod Ends
pub mod Numbers
pub mod Givens
