pub mod Resolve
pub mod Calls
pub mod Hops
