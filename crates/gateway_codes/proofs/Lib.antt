-- Laws that the functions' proofs cite. Blocks: the number of a look-up's answer.
mod Blocks
