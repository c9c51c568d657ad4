pub mod Check
pub mod Given
