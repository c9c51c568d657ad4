-- Laws that the functions' proofs cite; `Trusts` is for the crates above too.
mod Slots
mod Probes
mod Entries
pub mod Trusts
