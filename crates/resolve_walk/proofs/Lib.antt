-- Laws that the functions' proofs cite, and those on the walk that the crates above cite.
mod Places
mod Turns
pub mod Goes
pub mod Reach
pub mod States
pub mod Zeros
