-- Laws that the functions' proofs cite. Encodes: the encoder. Scalars: the scalar values of a UTF-8 text. Sizes: how long it is in UTF-16.
pub mod Encodes
pub mod Scalars
pub mod Sizes
