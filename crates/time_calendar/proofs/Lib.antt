-- Laws that the functions' proofs and upper crates cite.
pub mod Rising
pub mod Years
pub mod Months
pub mod Dates
