-- Laws that the functions' proofs and the decoder cite. Blocks: blocks of ASCII, told and copied.
pub mod Blocks
