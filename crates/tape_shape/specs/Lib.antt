pub mod Value
pub mod Array
