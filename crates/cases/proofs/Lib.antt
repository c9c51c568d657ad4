-- The theorem, and below it the rows over long books; more rows.
pub mod Chains
pub mod Table
pub mod More
