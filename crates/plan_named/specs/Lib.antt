pub mod Named
pub mod State
