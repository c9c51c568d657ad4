-- Laws of the definitions of specs/. Splices, Lays: the buffer. Encodes: the encoder. Decodes, Items, Scalars, Trips: the decoder, with
-- what is found at each exit of its functions, the items of a text, their values, and the way there and back. Cuts: the parts of a
-- text. Cases: worked examples.
pub mod Splices
pub mod Lays
pub mod Encodes
pub mod Decodes
pub mod Items
pub mod Scalars
pub mod Trips
pub mod Cuts
mod Cases
