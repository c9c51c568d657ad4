-- Laws that the functions' proofs cite; `Numbers` and `Next` are for callers too.
mod Known
mod Appending
pub mod Numbers
pub mod Next
