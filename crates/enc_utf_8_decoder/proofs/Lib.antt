-- Laws that the functions' proofs cite beside those of `enc_utf_8`. Blocks: blocks of ASCII, and those the automaton went through. Steps: the place after a code point.
pub mod Blocks
pub mod Steps
