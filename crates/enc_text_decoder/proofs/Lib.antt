-- Laws that the functions' proofs cite, and that the search for a text's end tells whether there is a terminator.
mod Texts
pub mod Found
