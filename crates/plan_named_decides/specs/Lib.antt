pub mod Decides
pub mod Made
pub mod InBuffer
