-- Demand 3 from nothing: the asks and adds while our book lacks the root's name, and from there on demand 3 itself; and demand 3 as its instance. A root
-- that stands for a block (Blocks), and the calls by the root's name after an ask that lists none (ByName).
pub mod Lacks
pub mod Nothing
pub mod Instance
pub mod Witness
pub mod Blocks
pub mod ByName
