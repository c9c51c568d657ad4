-- UTF-16LE, decoded: the steps of the "shared UTF-16 decoder" of the WHATWG Encoding Standard. Assumes nothing.
use Rattle.std.specs.Prelude.{cond, ℕ}
use mathlib.Core.List.{List, [], ◌∷◌, ◌++◌, flat_map, map}
use Rattle.std.proofs.Math.Option.{Option, none, some}
use Rattle.enc_utf_8.specs.Utf8.{Item, scalar, error, replaced, utf8_of}
use Rattle.enc_utf_16.specs.Unit16.{unit_of, is_leading, is_trailing, from_surrogates}

-- what the decoder does with a code unit: the items that it hands out, and its leading surrogate afterwards (`none` is the standard's null)
pub record Handed : Type 0 where
  pub items : List Item
  pub leading : Option ℕ

-- steps 6 to 8, with no leading surrogate: a leading surrogate is kept, a trailing surrogate is an error, any other code unit is a scalar value
unfoldable pub unit_alone : ℕ → Handed
unit_alone u =
    cond (is_leading u) (record { items = []; leading = some u })
    (cond (is_trailing u) (record { items = error ∷ []; leading = none }) (record { items = scalar u ∷ []; leading = none }))

-- step 5, with a leading surrogate: a trailing surrogate makes a pair with it; any other code unit is an error, and its bytes are restored to the queue and taken again, with no leading surrogate
unfoldable pub unit_after : Option ℕ → ℕ → Handed
unit_after none u = unit_alone u
unit_after (some lead) u =
    cond (is_trailing u) (record { items = scalar (from_surrogates lead u) ∷ []; leading = none })
    (record { items = error ∷ (unit_alone u).items; leading = (unit_alone u).leading })

-- the decoder with its leading byte, its leading surrogate and the bytes left. Steps 1 and 2: at the end one error, if there is a leading byte or a leading surrogate.
-- Step 3: with no leading byte, the byte becomes it. Step 4: the leading byte and the next byte are a code unit
unfoldable pub decode16_from : Option ℕ → Option ℕ → List ℕ → List Item
decode16_from none none [] = []
decode16_from none (some lead) [] = error ∷ []
decode16_from (some low) lead [] = error ∷ []
decode16_from none lead (x ∷ xs) = decode16_from (some x) lead xs
decode16_from (some low) lead (x ∷ xs) = (unit_after lead (unit_of low x)).items ++ decode16_from none (unit_after lead (unit_of low x)).leading xs

-- the scalar values and errors of the bytes; no byte order mark is looked for
abbrev pub decode_items : List ℕ → List Item
decode_items bytes = decode16_from none none bytes

-- the scalar values of the bytes, U+FFFD for each error
unfoldable pub decode_scalars : List ℕ → List ℕ
decode_scalars bytes = map replaced (decode_items bytes)

-- the bytes as UTF-8
abbrev pub decode16_text : List ℕ → List ℕ
decode16_text bytes = flat_map utf8_of (decode_scalars bytes)
