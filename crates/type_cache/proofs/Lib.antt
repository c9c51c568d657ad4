-- Laws that the functions' proofs cite, and those on two books that the crates above cite.
mod Checked
mod Runs
pub mod Numbers
pub mod Appends
pub mod Definitions
pub mod Joins
pub mod Adds
