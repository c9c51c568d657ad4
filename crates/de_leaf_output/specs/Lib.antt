pub mod Leaves
pub mod Numbers
