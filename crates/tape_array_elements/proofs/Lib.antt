-- Laws that the functions' proofs cite; those on items are for reader and writer too.
mod Checks
pub mod Items
