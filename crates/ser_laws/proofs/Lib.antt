-- Where a write goes: leaves keep their length (Sizes), what is kept outside ranges (Ranges), along the walk (Outside), of a whole write (Wholes;
-- examples: Places, Shown).
-- The tape's form: the walk of a write follows it (LeafForm, Ends); a read's leaves are in their ranges (ReadLeaf), its records those of a tree
-- (ReadTree), its tape well formed (ReadForm).
-- The round trip: UTF-16 (WideTrip), the ids of texts (TextId), a leaf (TripLeaf), along both walks (TripWalk), of two calls (RoundTrip), its premises
-- (Needed). Books: the examples' books.
-- Tapes that are written alike: along the walk (WriteAlike), along the form (FormAlike), of two calls (Alike).
-- The laws of a call for a root however it is given (Given), and the block that such a root stands for (Roots).
mod Plain
mod Sizes
mod Ranges
mod Outside
pub mod Wholes
mod LeafForm
pub mod Ends
mod ReadLeaf
mod ReadTree
pub mod ReadForm
mod WideTrip
mod TextId
mod TripLeaf
mod TripWalk
pub mod RoundTrip
mod WriteAlike
mod FormAlike
pub mod Alike
mod Books
mod Places
mod Shown
mod Needed
mod Roots
pub mod Given
