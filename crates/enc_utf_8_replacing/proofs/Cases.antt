-- Worked examples: the standard's U+FFFD, one for each maximal part that is ill_formed. Assumes nothing.
use mathlib.Core.Path.{◌≡◌, refl}
use mathlib.Core.List.{List, [], ◌∷◌, ◌++◌, flat_map}
use Prim.Native.Nat.{ℕ}
use Rattle.enc_utf_8.specs.Utf8.{decode_from, leading, following, after_reply, utf8_of, encoded}
use Rattle.enc_utf_8_replacing.specs.Text.{decode8_text}

-- U+FFFD in UTF-8
abbrev mark : List ℕ
mark = 0xef ∷ 0xbf ∷ 0xbd ∷ []

-- a byte that cannot follow F0h: both are errors of their own
overlong : decode8_text (0xf0 ∷ 0x80 ∷ []) ≡ mark ++ mark
unfolding decode8_text decode_from leading following after_reply utf8_of encoded flat_map
overlong = refl

-- the beginning of a code point that is cut off is one error
cut_off : decode8_text (0x41 ∷ 0xe2 ∷ 0x82 ∷ []) ≡ 0x41 ∷ mark
unfolding decode8_text decode_from leading following after_reply utf8_of encoded flat_map
cut_off = refl

-- a surrogate is three errors
surrogate : decode8_text (0xed ∷ 0xa0 ∷ 0x80 ∷ []) ≡ mark ++ mark ++ mark
unfolding decode8_text decode_from leading following after_reply utf8_of encoded flat_map
surrogate = refl

-- what comes after a cut code point is read anew
anew : decode8_text (0xe2 ∷ 0x82 ∷ 0x41 ∷ []) ≡ mark ++ (0x41 ∷ [])
unfolding decode8_text decode_from leading following after_reply utf8_of encoded flat_map
anew = refl

-- a byte order mark stays
order-mark : decode8_text (0xef ∷ 0xbb ∷ 0xbf ∷ 0x41 ∷ []) ≡ 0xef ∷ 0xbb ∷ 0xbf ∷ 0x41 ∷ []
unfolding decode8_text decode_from leading following after_reply utf8_of encoded flat_map
order-mark = refl
