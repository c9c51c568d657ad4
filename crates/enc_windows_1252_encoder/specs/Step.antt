-- What the private functions of this crate promise. Assumes nothing.
use Rattle.std.specs.Prelude.{◌≡◌, true, List, ◌++◌, ℕ, ◌<◌, ◌≤◌, length, take, drop}
use Rattle.enc_ascii.specs.Ascii.{is_ascii}
use Rattle.enc_windows_1252.specs.Text.{encode_code, encode_text}

-- the scalar value c of a text at the place `at`, with the place e after it, as the encoder takes it
pub record TakenFrom (text : List ℕ) (at c e : ℕ) : Type 0 where
  pub later : at < e
  pub within : e ≤ length text
  pub is : encode_text (drop at text) ≡ encode_code c ++ encode_text (drop e text)

-- the first n bytes of a text are ASCII
pub record AsciiTo (text : List ℕ) (n : ℕ) : Type 0 where
  pub within : n ≤ length text
  pub is : is_ascii (take n text) ≡ true
