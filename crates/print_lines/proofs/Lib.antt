-- Laws that the functions' proofs cite, and how long the lines are.
mod Prints
pub mod Lengths
