-- The rows of the automaton.
pub mod Rows
