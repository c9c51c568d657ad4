pub mod Index
pub mod Text
