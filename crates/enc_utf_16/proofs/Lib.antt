-- Laws that the functions' proofs and the crates above cite. Ends: the end of a WSTRING. Runs: a text measured and written.
-- Cases: worked examples.
pub mod Ends
pub mod Runs
mod Cases
