pub mod Asks
pub mod Turns
pub mod Ends
pub mod Numbers
