pub mod Text
pub mod Step
