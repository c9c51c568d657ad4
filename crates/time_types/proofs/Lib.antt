-- Laws that the functions' proofs and upper crates cite.
pub mod Names
pub mod Widths
