-- Worked examples of document 01 and of the readings of it. Assumes nothing.
use mathlib.Core.Path.{◌≡◌, refl}
use mathlib.Core.List.{[], ◌∷◌, flat_map}
use lib.ListN.{take}
use Rattle.enc_number.specs.Le.{le_value, le_bytes}
use Rattle.enc_utf_8.specs.Utf8.{scalar, error, leading, following, after_reply, decode_from, encoded, utf8_of}
use Rattle.enc_utf_8.specs.declared.TextEnd.TheVariants.{Terminated, Unterminated}
use Rattle.enc_utf_16.specs.Decode.{unit_alone, unit_after, decode16_from, decode_items, decode_scalars, decode16_text}
use Rattle.enc_utf_16.specs.Encode.{utf16_of, encode16_text}
use Rattle.enc_utf_16.specs.WString.{end16_from, wstring_end}

-- 41h 00h 3Dh D8h 00h 00h ends before byte 4, and gives 41h EFh BFh BDh
ends-before_pair : wstring_end (0x41 ∷ 0x00 ∷ 0x3D ∷ 0xD8 ∷ 0x00 ∷ 0x00 ∷ []) ≡ Terminated 4
unfolding end16_from
ends-before_pair = refl

leading-at-end : decode16_text (take 4 (0x41 ∷ 0x00 ∷ 0x3D ∷ 0xD8 ∷ 0x00 ∷ 0x00 ∷ [])) ≡ 0x41 ∷ 0xEF ∷ 0xBF ∷ 0xBD ∷ []
unfolding flat_map decode_scalars decode16_from unit_after unit_alone utf8_of encoded le_value
leading-at-end = refl

-- 41h alone gives EFh BFh BDh
odd_byte-alone : decode16_text (0x41 ∷ []) ≡ 0xEF ∷ 0xBF ∷ 0xBD ∷ []
unfolding flat_map decode_scalars decode16_from unit_after unit_alone utf8_of encoded le_value
odd_byte-alone = refl

-- a leading surrogate and an odd byte: one error
leading-and_odd : decode16_text (0x3D ∷ 0xD8 ∷ 0x41 ∷ []) ≡ 0xEF ∷ 0xBF ∷ 0xBD ∷ []
unfolding flat_map decode_scalars decode16_from unit_after unit_alone utf8_of encoded le_value
leading-and_odd = refl

-- a leading surrogate before a pair: an error, and U+1F600
leading_twice : decode_items (0x3D ∷ 0xD8 ∷ 0x3D ∷ 0xD8 ∷ 0x00 ∷ 0xDE ∷ []) ≡ error ∷ scalar 0x1F600 ∷ []
unfolding decode16_from unit_after unit_alone le_value
leading_twice = refl

-- no byte order mark is looked for: FFh FEh is U+FEFF
mark-is-text : decode16_text (0xFF ∷ 0xFE ∷ []) ≡ 0xEF ∷ 0xBB ∷ 0xBF ∷ []
unfolding flat_map decode_scalars decode16_from unit_after unit_alone utf8_of encoded le_value
mark-is-text = refl

-- 41h 00h 00h 00h 42h ends before byte 2
ends-at-two : wstring_end (0x41 ∷ 0x00 ∷ 0x00 ∷ 0x00 ∷ 0x42 ∷ []) ≡ Terminated 2
unfolding end16_from
ends-at-two = refl

-- 41h 00h 00h 42h has a zero pair, and none that is aligned
pair_not_aligned : wstring_end (0x41 ∷ 0x00 ∷ 0x00 ∷ 0x42 ∷ []) ≡ Unterminated 4
unfolding end16_from
pair_not_aligned = refl

-- an odd 00h ends nothing
odd_zero : wstring_end (0x00 ∷ []) ≡ Unterminated 1
unfolding end16_from
odd_zero = refl

-- U+1F600 is the pair D83Dh DE00h, and U+FFFD stands for an ill_formed byte
pair_encoded : encode16_text (0xF0 ∷ 0x9F ∷ 0x98 ∷ 0x80 ∷ 0xFF ∷ []) ≡ 0x3D ∷ 0xD8 ∷ 0x00 ∷ 0xDE ∷ 0xFD ∷ 0xFF ∷ []
unfolding flat_map decode_from leading following after_reply utf16_of le_bytes
pair_encoded = refl
