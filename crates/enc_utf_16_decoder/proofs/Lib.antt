-- Laws that the functions' proofs cite. Blocks: a text by its blocks.
mod Blocks
