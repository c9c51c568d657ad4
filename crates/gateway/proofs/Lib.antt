-- Laws that the functions' proofs cite, and those that a caller leans on.
mod Numbers
mod Equal
pub mod Boundary
