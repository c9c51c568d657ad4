pub mod Category
pub mod Number
