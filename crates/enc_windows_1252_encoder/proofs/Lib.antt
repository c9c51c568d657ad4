-- Laws that the functions' proofs and the crates above cite. Prefixes: ASCII at a text's start. Encoders: the encoding of a text, and
-- the functions' exits and loops. Trips: decoding and encoding again.
pub mod Prefixes
pub mod Encoders
pub mod Trips
