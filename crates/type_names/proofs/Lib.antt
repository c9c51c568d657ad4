-- Laws that the functions' proofs and the crates above cite. Texts: the loops over a name.
pub mod Texts
