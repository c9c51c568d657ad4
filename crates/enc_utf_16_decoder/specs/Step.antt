-- What the private functions of this crate promise. Assumes nothing.
use Rattle.std.specs.Prelude.{◌≡◌, List, ℕ, ◌+◌, ◌≤◌, ◌<◌, length, drop}
use Rattle.enc_utf_16.specs.Decode.{decode16_text}
use Rattle.enc_utf_16.specs.Step.{LeftToWrite}

-- what begins at a place takes `size` bytes in UTF-8, and `next` is the place after it
pub record TextAt16 (bytes : List ℕ) (at size next : ℕ) : Type 0 where
  pub is : length (decode16_text (drop at bytes)) ≡ size + length (decode16_text (drop next bytes))
  pub later : at < next
  pub within : next ≤ length bytes

-- a part of the text from `from` on was written from `to` on: what is left of it goes from `from'` and `to'` on
pub record PartWrote (bytes : List ℕ) (from : ℕ) (out : List ℕ) (to from' : ℕ) (out' : List ℕ) (to' : ℕ) : Type 0 where
  pub left : LeftToWrite (decode16_text (drop from bytes)) out to (decode16_text (drop from' bytes)) out' to'
  pub later : from < from'
  pub within : from' ≤ length bytes
