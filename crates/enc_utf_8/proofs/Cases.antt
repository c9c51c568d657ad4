-- Worked examples, by computation: the shortest and the longest forms, and each kind of ill_formed part. Assumes nothing.
use mathlib.Core.Path.{◌≡◌, refl}
use mathlib.Core.List.{[], ◌∷◌}
use Rattle.enc_utf_8.specs.declared.Char.TheVariants.{Error}
use Rattle.enc_utf_8.specs.Utf8.{scalar, error, leading, following, after_reply, decode_from, decode, scalars, found, next_from, next_at, encoded, utf8_of}

-- U+0041 U+20AC U+1F600
euro : decode (0x41 ∷ 0xe2 ∷ 0x82 ∷ 0xac ∷ 0xf0 ∷ 0x9f ∷ 0x98 ∷ 0x80 ∷ []) ≡ scalar 0x41 ∷ scalar 0x20ac ∷ scalar 0x1f600 ∷ []
unfolding decode_from leading following after_reply
euro = refl

-- an overlong form: each byte is an error
overlong : decode (0xc0 ∷ 0x80 ∷ []) ≡ error ∷ error ∷ []
unfolding decode_from leading following after_reply
overlong = refl

-- an overlong form of three bytes
overlong-three : decode (0xe0 ∷ 0x9f ∷ 0xbf ∷ []) ≡ error ∷ error ∷ error ∷ []
unfolding decode_from leading following after_reply
overlong-three = refl

-- a surrogate
surrogate : decode (0xed ∷ 0xa0 ∷ 0x80 ∷ []) ≡ error ∷ error ∷ error ∷ []
unfolding decode_from leading following after_reply
surrogate = refl

-- past U+10FFFF
past_the_last : decode (0xf4 ∷ 0x90 ∷ 0x80 ∷ 0x80 ∷ []) ≡ error ∷ error ∷ error ∷ error ∷ []
unfolding decode_from leading following after_reply
past_the_last = refl

-- U+10FFFF
last : decode (0xf4 ∷ 0x8f ∷ 0xbf ∷ 0xbf ∷ []) ≡ scalar 0x10ffff ∷ []
unfolding decode_from leading following after_reply
last = refl

-- a cut code point is one error, and the byte after it is taken anew
cut : decode (0xf0 ∷ 0x9f ∷ 0x98 ∷ 0x41 ∷ []) ≡ error ∷ scalar 0x41 ∷ []
unfolding decode_from leading following after_reply
cut = refl

-- and one error at the end
cut-by_the_end : decode (0xe2 ∷ 0x82 ∷ []) ≡ error ∷ []
unfolding decode_from leading following after_reply
cut-by_the_end = refl

-- no byte order mark is looked for
mark : decode (0xef ∷ 0xbb ∷ 0xbf ∷ 0x41 ∷ []) ≡ scalar 0xfeff ∷ scalar 0x41 ∷ []
unfolding decode_from leading following after_reply
mark = refl

-- an error becomes U+FFFD
replacement : scalars (0x41 ∷ 0xff ∷ []) ≡ 0x41 ∷ 0xfffd ∷ []
unfolding decode_from leading following after_reply
replacement = refl

-- the error ends before the byte that is taken anew
error-place : next_at (0x41 ∷ 0xf0 ∷ 0x9f ∷ 0x41 ∷ []) 1 ≡ Error 3
unfolding next_from leading following found
error-place = refl

-- U+1F600
grinning : utf8_of 0x1f600 ≡ 0xf0 ∷ 0x9f ∷ 0x98 ∷ 0x80 ∷ []
unfolding utf8_of encoded
grinning = refl

-- a surrogate counts as U+FFFD
encoded-surrogate : utf8_of 0xdfff ≡ 0xef ∷ 0xbf ∷ 0xbd ∷ []
unfolding utf8_of encoded
encoded-surrogate = refl
