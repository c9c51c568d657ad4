-- Laws that the functions' proofs and the crates above cite. Formed: a well-formed text is its own text. Texts: the text of bytes in parts.
-- Decoders: the functions' exits and loops. Cases: worked examples.
pub mod Formed
pub mod Texts
pub mod Decoders
mod Cases
