-- Worked cases, by computation. Assumes nothing.
use Rattle.std.specs.Prelude.{Some, None}
use mathlib.Core.Path.{◌≡◌, refl}
use mathlib.Core.List.{[], ◌∷◌, flat_map}
use Rattle.enc_utf_8.specs.declared.TextEnd.TheVariants.{Terminated, Unterminated}
use Rattle.enc_utf_8.specs.Utf8.{leading, following, after_reply, decode_from, encoded, utf8_of}
use Rattle.enc_windows_1252.specs.Index.{listed_points, code_point, first_from, byte_of}
use Rattle.enc_windows_1252.specs.Text.{end_from, string_end, decode_text, digits, bytes_by, encode_text}

-- 80h is U+20AC, and 81h is U+0081 both ways; U+0080 has no byte
euro : code_point 0x80 ≡ 0x20ac
unfolding listed_points code_point
euro = refl

own : code_point 0x81 ≡ 0x81
unfolding listed_points code_point
own = refl

own-byte : byte_of 0x81 ≡ Some 0x81
unfolding listed_points code_point first_from byte_of
own-byte = refl

no_byte : byte_of 0x80 ≡ None
unfolding listed_points code_point first_from byte_of
no_byte = refl

-- a text ends at its first zero, and without one with the memory
ended : string_end (0x41 ∷ 0 ∷ 0x42 ∷ 0 ∷ []) ≡ Terminated 1
unfolding end_from
ended = refl

open_ended : string_end (0x41 ∷ 0x42 ∷ []) ≡ Unterminated 2
unfolding end_from
open_ended = refl

-- EFh BBh BFh is no byte order mark: three letters
no-mark : decode_text (0xef ∷ 0xbb ∷ 0xbf ∷ []) ≡ 0xc3 ∷ 0xaf ∷ 0xc2 ∷ 0xbb ∷ 0xc2 ∷ 0xbf ∷ []
unfolding listed_points code_point encoded utf8_of flat_map decode_text
no-mark = refl

-- U+0416 becomes `&#1046;`, U+FEFF `&#65279;`, U+0080 `&#128;`
zhe : encode_text (0xd0 ∷ 0x96 ∷ []) ≡ 0x26 ∷ 0x23 ∷ 0x31 ∷ 0x30 ∷ 0x34 ∷ 0x36 ∷ 0x3b ∷ []
unfolding listed_points code_point first_from byte_of leading following after_reply decode_from digits bytes_by flat_map encode_text
zhe = refl

mark : encode_text (0xef ∷ 0xbb ∷ 0xbf ∷ []) ≡ 0x26 ∷ 0x23 ∷ 0x36 ∷ 0x35 ∷ 0x32 ∷ 0x37 ∷ 0x39 ∷ 0x3b ∷ []
unfolding listed_points code_point first_from byte_of leading following after_reply decode_from digits bytes_by flat_map encode_text
mark = refl

control : encode_text (0xc2 ∷ 0x80 ∷ []) ≡ 0x26 ∷ 0x23 ∷ 0x31 ∷ 0x32 ∷ 0x38 ∷ 0x3b ∷ []
unfolding listed_points code_point first_from byte_of leading following after_reply decode_from digits bytes_by flat_map encode_text
control = refl

-- an ill_formed part counts as U+FFFD
ill_formed : encode_text (0x41 ∷ 0xff ∷ []) ≡ 0x41 ∷ 0x26 ∷ 0x23 ∷ 0x36 ∷ 0x35 ∷ 0x35 ∷ 0x33 ∷ 0x33 ∷ 0x3b ∷ []
unfolding listed_points code_point first_from byte_of leading following after_reply decode_from digits bytes_by flat_map encode_text
ill_formed = refl
