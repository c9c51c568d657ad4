-- Two books, one of which holds only definitions of the other: what is found, chains, reached and needed names agree (Covered), the room that the other
-- needs is enough for it (Room), and so it stays when one more definition is added (Kept).
pub mod Covered
pub mod Room
pub mod Kept
