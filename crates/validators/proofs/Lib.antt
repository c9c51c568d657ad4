-- Laws that the functions' proofs cite, and those that the crates above cite.
mod Answers
pub mod Validities
