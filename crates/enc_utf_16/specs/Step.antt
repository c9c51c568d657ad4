-- What the private functions of the decoder and of the encoder promise. Assumes nothing.
use Rattle.std.specs.Prelude.{◌≡◌, List, ◌∷◌, ℕ, ◌+◌, ◌≤◌, ◌<◌, length, drop}
use Rattle.enc_utf_8.specs.Buffer.{splice}

-- at a place stands the scalar value `code`, and `next` is the place after it, where `scalars_of` gives the scalar values of bytes
pub record ScalarAtIn (scalars_of : List ℕ → List ℕ) (bytes : List ℕ) (at code next : ℕ) : Type 0 where
  pub is : scalars_of (drop at bytes) ≡ code ∷ scalars_of (drop next bytes)
  pub later : at < next
  pub within : next ≤ length bytes

-- what is left to write, `rest` from `to` on into `out`, is all that was to be written, `whole` from `at` on into `out₀`
pub record LeftToWrite (whole out₀ : List ℕ) (at : ℕ) (rest out : List ℕ) (to : ℕ) : Type 0 where
  pub place : to + length rest ≡ at + length whole
  pub buffer : splice out to rest ≡ splice out₀ at whole
  pub long : length out ≡ length out₀
  pub fits : to + length rest ≤ length out
