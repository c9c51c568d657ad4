-- Laws that the functions' proofs cite. Fields: the states within a row. Runs: what the automaton says of the decoder.
pub mod Fields
pub mod Runs
