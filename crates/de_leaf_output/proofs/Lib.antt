-- Laws that the functions' proofs cite, the law on reals, and the law on byte 1 of a text.
mod Leaves
mod Numbers
pub mod Reals
pub mod Ended
