-- What the check of a tape keeps of the text buffer from one text to the next. Assumes nothing.
use Rattle.std.specs.Prelude.{◌≡◌, List, ℕ, length, get_or}
use Rattle.enc_utf_8.specs.Utf8.{ValidTo, Stretch}

-- three numbers: so many bytes from the buffer's start on are UTF-8, and so are those from the second number up to the third
pub record KnownTexts (text known : List ℕ) : Type 0 where
  pub numbers : length known ≡ 3
  pub first : ValidTo text (get_or known 0 0)
  pub later : Stretch text (get_or known 1 0) (get_or known 2 0)
