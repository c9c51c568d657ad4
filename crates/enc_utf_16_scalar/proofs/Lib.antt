-- Laws that the functions' proofs and the decoder cite. Decodes: the decoder, item by item.
pub mod Decodes
