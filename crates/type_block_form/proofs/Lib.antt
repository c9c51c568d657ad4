-- Laws that the functions' proofs cite; those on tests in a row and on unused bytes are for the crates above too.
pub mod Bytes
pub mod Forms
mod Sums
mod NameSums
