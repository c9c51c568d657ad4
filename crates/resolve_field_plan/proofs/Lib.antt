-- Laws that the functions' proofs cite; those on plans are for the crates above too.
pub mod Numbers
pub mod Plans
