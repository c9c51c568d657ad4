-- UTF-8 by the WHATWG Encoding Standard: the steps of its UTF-8 decoder and of its UTF-8 encoder. Assumes nothing.
use Rattle.std.specs.Prelude.{◌≡◌, Bool, true, false, cond, ◌&&◌, ◌||◌, List, [], ◌∷◌, map, ℕ, ◌+◌, ◌*◌, ◌/◌, ◌%◌, ◌-◌, ◌≤◌, length, take, drop, eqb, leb, ltb}
use Rattle.enc_utf_8.specs.declared.Char.{Char}
use Rattle.enc_utf_8.specs.declared.Char.TheVariants.{Code, Error, End}

-- ---- the decoder

-- what the decoder hands out: a scalar value, or an error
pub data Item : Type 0 where
  scalar : ℕ → Item
  error : Item

-- the decoder's variables: UTF-8 code point, UTF-8 bytes seen, UTF-8 bytes needed, UTF-8 lower boundary, UTF-8 upper boundary
pub data State : Type 0 where
  state : ℕ → ℕ → ℕ → ℕ → ℕ → State

-- their initial values
abbrev pub initial : State
initial = state 0 0 0 0x80 0xbf

-- the lower boundary after a lead byte
abbrev pub lower_of : ℕ → ℕ
lower_of lead = cond (eqb lead 0xe0) 0xa0 (cond (eqb lead 0xf0) 0x90 0x80)

-- the upper boundary after a lead byte
abbrev pub upper_of : ℕ → ℕ
upper_of lead = cond (eqb lead 0xed) 0x9f (cond (eqb lead 0xf4) 0x8f 0xbf)

-- what the decoder does with a byte that it takes: it hands out an item and is in its initial state again, or it goes on in another state
pub data DecoderReply : Type 0 where
  give : Item → DecoderReply
  continue : State → DecoderReply

-- step 3: the byte where no bytes are needed
unfoldable pub leading : ℕ → DecoderReply
leading b =
    cond (ltb b 0x80) (give (scalar b))
    (cond (ltb b 0xc2) (give error)
    (cond (ltb b 0xe0) (continue (state (b % 32) 0 1 0x80 0xbf))
    (cond (ltb b 0xf0) (continue (state (b % 16) 0 2 (lower_of b) (upper_of b)))
    (cond (ltb b 0xf5) (continue (state (b % 8) 0 3 (lower_of b) (upper_of b)))
    (give error)))))

-- steps 5 to 11: a byte that lies between the boundaries, with the code point, the bytes seen and the bytes needed so far
unfoldable pub following : ℕ → ℕ → ℕ → ℕ → DecoderReply
following code seen needed b =
    cond (eqb (seen + 1) needed)
    (give (scalar (code * 64 + b % 64)))
    (continue (state (code * 64 + b % 64) (seen + 1) needed 0x80 0xbf))

-- what comes after a reply, where `rest` comes from a state on
unfoldable pub after_reply : DecoderReply → (State → List Item) → List Item
after_reply (give i) rest = i ∷ rest initial
after_reply (continue s) rest = rest s

-- the decoder from a state on, to the end of the queue (steps 1 and 2); a byte outside the boundaries is an error, and is then taken in the initial state (step 4: it is restored to the queue)
unfoldable pub decode_from : State → List ℕ → List Item
decode_from (state code seen needed lower upper) [] = cond (eqb needed 0) [] (error ∷ [])
decode_from (state code seen needed lower upper) (b ∷ bs) =
    cond (eqb needed 0) (after_reply (leading b) (λ s. decode_from s bs))
    (cond (leb lower b && leb b upper)
    (after_reply (following code seen needed b) (λ s. decode_from s bs))
    (error ∷ after_reply (leading b) (λ s. decode_from s bs)))

-- the UTF-8 decoder; no byte order mark is looked for
abbrev pub decode : List ℕ → List Item
decode bytes = decode_from initial bytes

-- no item is an error
unfoldable pub no_error : List Item → Bool
no_error [] = true
no_error (scalar c ∷ items) = no_error items
no_error (error ∷ items) = false

-- the bytes are well-formed UTF-8
abbrev pub well_formed : List ℕ → Bool
well_formed bytes = no_error (decode bytes)

-- the first v bytes of a text are well-formed by themselves
pub record ValidTo (text : List ℕ) (v : ℕ) : Type 0 where
  pub within : v ≤ length text
  pub begins : well_formed (take v text) ≡ true

-- the bytes from lo up to hi are in a text, and well-formed by themselves
pub record Stretch (text : List ℕ) (lo hi : ℕ) : Type 0 where
  pub order : lo ≤ hi
  pub within : hi ≤ length text
  pub formed : well_formed (take (hi - lo) (drop lo text)) ≡ true

-- a byte that can only follow others in a code point, and never begins one
unfoldable pub trail : ℕ → Bool
trail b = leb 0x80 b && ltb b 0xc0

-- the standard's replacement: an error becomes U+FFFD
abbrev pub replaced : Item → ℕ
replaced (scalar c) = c
replaced error = 0xfffd

-- the scalar values of a text, with U+FFFD for each error
abbrev pub scalars : List ℕ → List ℕ
scalars bytes = map replaced (decode bytes)

-- ---- the decoder's first item, and the place after the bytes that it took

-- what comes after a reply to the byte at `at`, where `rest` comes from a state on
unfoldable pub found : DecoderReply → ℕ → (State → Char) → Char
found (give (scalar c)) at rest = Code c (at + 1)
found (give error) at rest = Error (at + 1)
found (continue s) at rest = rest s

-- the first item from a state on, where `at` is the place of the first byte; a byte that is restored to the queue is not taken
unfoldable pub next_from : State → ℕ → List ℕ → Char
next_from (state code seen needed lower upper) at [] = cond (eqb needed 0) End (Error at)
next_from (state code seen needed lower upper) at (b ∷ bs) =
    cond (eqb needed 0) (found (leading b) at (λ s. next_from s (at + 1) bs))
    (cond (leb lower b && leb b upper)
    (found (following code seen needed b) at (λ s. next_from s (at + 1) bs))
    (Error at))

-- the first item of a text from `at` on
abbrev pub next_at : List ℕ → ℕ → Char
next_at text at = next_from initial at (drop at text)

-- ---- the encoder

-- a Unicode scalar value: a code point that is no surrogate
abbrev pub is_scalar : ℕ → Bool
is_scalar c = ltb c 0xd800 || (leb 0xe000 c && leb c 0x10ffff)

-- the bytes of a code point that takes two
abbrev pub two : ℕ → List ℕ
two c = (0xc0 + c / 64) ∷ (0x80 + c % 64) ∷ []

-- the bytes of a code point that takes three
abbrev pub three : ℕ → List ℕ
three c = (0xe0 + c / 4096) ∷ (0x80 + c / 64 % 64) ∷ (0x80 + c % 64) ∷ []

-- the bytes of a code point that takes four
abbrev pub four : ℕ → List ℕ
four c = (0xf0 + c / 262144) ∷ (0x80 + c / 4096 % 64) ∷ (0x80 + c / 64 % 64) ∷ (0x80 + c % 64) ∷ []

-- the UTF-8 encoder of a scalar value
unfoldable pub encoded : ℕ → List ℕ
encoded c = cond (ltb c 0x80) (c ∷ []) (cond (ltb c 0x800) (two c) (cond (ltb c 0x10000) (three c) (four c)))

-- the same of any number: one that is no scalar value counts as U+FFFD
unfoldable pub utf8_of : ℕ → List ℕ
utf8_of c = encoded (cond (is_scalar c) c 0xfffd)
