-- Laws that the functions' proofs and upper crates cite.
pub mod ByteOrder
pub mod Truths
