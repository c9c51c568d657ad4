-- Laws that the functions' proofs cite, and how long a record's line is.
mod Prints
pub mod Lengths
