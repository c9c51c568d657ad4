-- The laws on look-up that the functions' proofs and the crates above cite.
pub mod Finds
pub mod Numbers
