-- Laws that the functions' proofs cite.
mod Walks
mod Exits
mod Wholes
mod FieldNumbers
