-- Laws that the functions' proofs cite; those on places are for the walks too.
mod Bits
mod Stacks
pub mod Places
