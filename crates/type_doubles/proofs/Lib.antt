-- Laws that the functions' proofs cite; the check of a book cites them too.
pub mod All
pub mod Doubles
