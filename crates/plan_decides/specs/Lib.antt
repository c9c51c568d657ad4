pub mod Decides
pub mod Made
pub mod Few
pub mod InBuffer
