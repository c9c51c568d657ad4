-- Laws that the functions' proofs cite. Those on fields and document 01's cases are for the crates above too.
pub mod Numbers
pub mod Fields
pub mod Worked
pub mod Records
