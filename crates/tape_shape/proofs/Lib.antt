-- Laws that the functions' proofs cite; those on strides are for the reader too.
mod Products
pub mod Strides
