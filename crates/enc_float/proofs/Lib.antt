-- Laws that the functions' proofs cite, and those that the crates above cite.
pub mod Reals
pub mod Numbers
