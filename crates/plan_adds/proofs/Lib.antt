pub mod Fetches
pub mod Dues
pub mod Lists
