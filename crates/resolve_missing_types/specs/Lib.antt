pub mod Calls
pub mod Needs
pub mod State
pub mod Given
