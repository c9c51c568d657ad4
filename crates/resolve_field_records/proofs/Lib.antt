-- Laws that the functions' proofs cite. Stored: the records as lists. Named: the same for a root however it is given.
mod Stored
pub mod Named
