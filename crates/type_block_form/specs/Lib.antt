pub mod Form
pub mod Names
