pub mod Index
pub mod Parts
pub mod Trust
