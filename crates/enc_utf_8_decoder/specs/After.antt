-- What the private functions of this crate promise. Assumes nothing.
use Rattle.std.specs.Prelude.{◌≡◌, Bool, true, ◌&&◌, List, ℕ, ◌+◌, ◌≤◌, length, get_or, take, drop, leb}
use Rattle.enc_utf_8.specs.declared.Char.{Char}
use Rattle.enc_utf_8.specs.declared.Char.TheVariants.{Code, Error, End}
use Rattle.enc_utf_8.specs.Utf8.{lower_of, upper_of, trail, well_formed}
use Rattle.enc_ascii.specs.Ascii.{is_ascii}

-- the place after a code point that was found at `at`, or `at` itself where none was
unfoldable pub place_after : Char → ℕ → ℕ
place_after (Code c e) at = e
place_after (Error e) at = at
place_after End at = at

-- the four bytes of a text from `at` on are a code point, where the first is the lead of one
unfoldable pub four_fit : List ℕ → ℕ → Bool
four_fit text at =
    (leb (lower_of (get_or text at 0)) (get_or text (at + 1) 0) && leb (get_or text (at + 1) 0) (upper_of (get_or text at 0)))
    && (trail (get_or text (at + 2) 0) && trail (get_or text (at + 3) 0))

-- n bytes of a text from `at` on are there, and ASCII
pub record AsciiHere (text : List ℕ) (at n : ℕ) : Type 0 where
  pub inside : at + n ≤ length text
  pub ascii : is_ascii (take n (drop at text)) ≡ true

-- each beginning of a text that has its first `at` bytes is well-formed where what it has after them is
pub record PassedTo (text : List ℕ) (at : ℕ) : Type 0 where
  pub within : at ≤ length text
  pub cuts : (n : ℕ) → at ≤ n → n ≤ length text → well_formed (take n text) ≡ well_formed (drop at (take n text))
