-- A law that the proofs of the buffers cite.
mod Filled
