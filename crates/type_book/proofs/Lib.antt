-- Laws that the functions' proofs cite, and those on blocks, names and look-up that the crates above cite.
pub mod Blocks
pub mod Names
mod Words
