-- Laws that the functions' proofs and upper crates cite.
pub mod Clock
mod Exits
pub mod Laws
pub mod Numbers
