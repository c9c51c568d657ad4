pub mod Reads
pub mod Calls
pub mod State
pub mod Given
