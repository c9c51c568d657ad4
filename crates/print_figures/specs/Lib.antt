pub mod Puts
pub mod Figures
