-- Laws that the functions' proofs cite.
pub mod Names
pub mod Ranks
