-- Laws that the functions' proofs cite, and those on the list that the crates above cite.
mod Lists
pub mod Numbers
pub mod Ends
pub mod Missings
pub mod Givens
