-- Laws that the functions' proofs cite, and those of the answers.
pub mod Lays
