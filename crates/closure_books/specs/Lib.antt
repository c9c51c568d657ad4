-- Two books, one of which holds only definitions of the other.
pub mod Books
