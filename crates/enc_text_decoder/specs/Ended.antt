-- Whether a text in memory was ended (document 02, change request 2): a terminator is a zero byte in a STRING, an aligned zero pair in a WSTRING.
-- Assumes nothing.
use Rattle.std.specs.Prelude.{Bool, true, false, ◌&&◌, ◌||◌, List, [], ◌∷◌, ℕ, eqb}
use Rattle.enc_utf_8.specs.declared.TextEnd.{TextEnd}
use Rattle.enc_utf_8.specs.declared.TextEnd.TheVariants.{Terminated, Unterminated}
use Rattle.enc_text_decoder.specs.declared.Decoder.{Decoder}
use Rattle.enc_text_decoder.specs.declared.Decoder.TheVariants as decoder

-- one of the bytes is zero, and be it the last
unfoldable pub has_zero : List ℕ → Bool
has_zero [] = false
has_zero (x ∷ xs) = eqb x 0 || has_zero xs

-- one of the aligned pairs of bytes, at byte 0, 2, 4 and so on, is zero; an odd byte is no pair
unfoldable pub has_zero_pair : List ℕ → Bool
has_zero_pair [] = false
has_zero_pair (x ∷ []) = false
has_zero_pair (x ∷ y ∷ xs) = (eqb x 0 && eqb y 0) || has_zero_pair xs

-- a text's bytes have a terminator
unfoldable pub terminated : Decoder → List ℕ → Bool
terminated decoder.Windows1252 bytes = has_zero bytes
terminated decoder.Utf16 bytes = has_zero_pair bytes
terminated decoder.Utf8 bytes = has_zero bytes

-- the search for the end told that it found one
abbrev pub was_found : TextEnd → Bool
was_found (Terminated n) = true
was_found (Unterminated n) = false
