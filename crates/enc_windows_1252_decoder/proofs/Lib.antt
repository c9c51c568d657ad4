-- Laws that the functions' proofs and the crates above cite. Texts: the decoding of a text. Decoders: the functions' exits and loops.
pub mod Texts
pub mod Decoders
