-- Laws of the definitions of specs/, and of the functions' exits and loops. Table, Indexes: the index. Ends: the end of a text.
-- Decimals: numbers in decimal. Cases: worked examples.
pub mod Table
pub mod Indexes
pub mod Ends
pub mod Decimals
mod Cases
