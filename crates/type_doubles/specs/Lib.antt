pub mod Doubles
pub mod Met
