pub mod Calendar
pub mod Places
