-- Laws that the functions' proofs cite. Those on chains, document 01's cases, and what a root that passed 1 to 5 gives are for the crates
-- above too.
pub mod Numbers
pub mod Chains
pub mod Worked
pub mod Calls
