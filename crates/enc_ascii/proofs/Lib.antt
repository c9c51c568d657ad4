-- Laws that the functions' proofs and the crates above cite. Ascii: what bytes that are ASCII are. Copies: the exits and the loop of `copy`, and the loop of a copy over as many bytes.
pub mod Ascii
pub mod Copies
