-- The ranges that a write touches, the premises of the round trip, tapes that are written alike, the laws, and those for a root however it is given.
pub mod Touched
pub mod Trip
pub mod Alike
pub mod Laws
pub mod Given
