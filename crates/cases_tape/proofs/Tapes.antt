-- Worked examples of well-formed tapes and of refusal 16, by computing. Assumes nothing.
use mathlib.Core.Path.{◌≡◌, refl}
use mathlib.Core.Bool.{Bool, true, false}
use mathlib.Core.List.{List, [], ◌∷◌, ◌++◌}
use Prim.Native.Nat.{ℕ, zero, suc, ◌-◌, ◌^◌}
use lib.ListN.{take, replicate}
use Rattle.enc_number.specs.Le.{le_value, le_bytes}
use Rattle.enc_integer.specs.Integer.{twos_complement, fits_signed, fits_unsigned}
use Rattle.enc_utf_8.specs.Utf8.{decode_from, leading, following, after_reply, no_error}
use Rattle.tape.specs.declared.record.Record.{Record}
use Rattle.tape.specs.Record.{record_bytes, record_of, step_at}
use Rattle.tape_form.specs.Ranges.{unused, undeclared, is_width, block_is, declares, text_in, only_a, empty, names_block, opens, closes, is_key, only_b, sized, integer_fine, textual, leaf_ranges, leaf_fine}
use Rattle.tape_form.specs.Form.{with_record, form_onward, closing_record, several, member_at, record_shape, body_by, value_at, at_tape_end, formed}
use Rattle.tape_form.specs.Tree.{with_A, records_bytes}

-- a type block, a field block and an entry block, of which only byte 0 counts here
abbrev book : List ℕ
book = (1 ∷ replicate 511 0) ++ (2 ∷ replicate 511 0) ++ (3 ∷ replicate 511 0)

-- three bytes of text, of which the middle one alone is UTF-8
abbrev text : List ℕ
text = 0xff ∷ 0x41 ∷ 0xff ∷ []

-- a record of kind, width, A and B
abbrev rec : ℕ → ℕ → ℕ → ℕ → Record
rec k w a b = record { kind = k; width = w; spare = 0; declared = 0; a = a; b = b }

-- a record of kind, with bytes 4 to 7 and A
abbrev typed : ℕ → ℕ → ℕ → Record
typed k d a = record { kind = k; width = 0; spare = 0; declared = d; a = a; b = 0 }

-- whether some records are a tape
abbrev is : List Record → Bool
is rs = formed book (records_bytes rs) text

-- a unit
abbrev unit : Record
unit = rec 13 0 0 0

-- n arrays, one in the other, round some records, the innermost with k elements
abbrev nested : ℕ → ℕ → List Record → List Record
nested zero k inner = inner
nested (suc zero) k inner = with_A 1 k ∷ (inner ++ (with_A 2 0 ∷ []))
nested (suc (suc n)) k inner = with_A 1 1 ∷ (nested (suc n) k inner ++ (with_A 2 0 ∷ []))

-- bools, integers and reals at the ends of their ranges
numbers :
    is (rec 6 0 0 0 ∷ []) ∷ is (rec 6 0 0 1 ∷ []) ∷ is (rec 6 0 0 2 ∷ []) ∷ is (rec 6 1 0 1 ∷ [])
    ∷ is (rec 7 1 0 127 ∷ []) ∷ is (rec 7 1 0 128 ∷ []) ∷ is (rec 7 1 0 (2 ^ 64 - 128) ∷ []) ∷ is (rec 7 1 0 (2 ^ 64 - 129) ∷ [])
    ∷ is (rec 8 2 0 65535 ∷ []) ∷ is (rec 8 2 0 65536 ∷ []) ∷ is (rec 8 8 0 (2 ^ 64 - 1) ∷ []) ∷ is (rec 8 3 0 1 ∷ [])
    ∷ is (rec 9 0 0 (2 ^ 32 - 1) ∷ []) ∷ is (rec 9 0 0 (2 ^ 32) ∷ []) ∷ is (rec 10 0 0 (2 ^ 64 - 1) ∷ []) ∷ is (rec 10 0 1 0 ∷ []) ∷ []
    ≡ true ∷ true ∷ false ∷ false
    ∷ true ∷ false ∷ true ∷ false
    ∷ true ∷ false ∷ true ∷ false
    ∷ true ∷ false ∷ true ∷ false ∷ []
unfolding formed at_tape_end value_at body_by record_shape member_at several closing_record form_onward with_record leaf_fine leaf_ranges textual integer_fine sized only_b names_block empty only_a text_in block_is is_width unused undeclared declares opens closes is_key records_bytes record_bytes record_of step_at le_value le_bytes twos_complement fits_signed fits_unsigned
numbers = refl

-- texts inside, ended or not, at the end, outside and not UTF-8; entries and keys by the kind of their block
places :
    is (rec 11 0 1 1 ∷ []) ∷ is (rec 11 1 1 1 ∷ []) ∷ is (rec 11 2 1 1 ∷ []) ∷ is (rec 13 1 0 0 ∷ []) ∷ is (rec 11 0 3 0 ∷ []) ∷ is (rec 11 0 4 0 ∷ []) ∷ is (rec 11 0 0 1 ∷ []) ∷ is (rec 11 0 1 (2 ^ 64 - 1) ∷ [])
    ∷ is (rec 12 0 2 0 ∷ []) ∷ is (rec 12 0 1 0 ∷ []) ∷ is (rec 12 0 3 0 ∷ [])
    ∷ is (with_A 3 1 ∷ with_A 4 1 ∷ unit ∷ with_A 5 0 ∷ []) ∷ is (with_A 3 1 ∷ with_A 4 2 ∷ unit ∷ with_A 5 0 ∷ []) ∷ []
    ≡ true ∷ true ∷ false ∷ false ∷ true ∷ false ∷ false ∷ false
    ∷ true ∷ false ∷ false
    ∷ true ∷ false ∷ []
unfolding formed at_tape_end value_at body_by record_shape member_at several closing_record form_onward with_record leaf_fine leaf_ranges textual integer_fine sized only_b names_block empty only_a text_in block_is is_width unused undeclared declares opens closes is_key records_bytes record_bytes record_of step_at le_value le_bytes decode_from leading following after_reply no_error
places = refl

-- counts of elements and of keys; no value, half a value, two values, and 23 bytes
balance :
    is (with_A 1 1 ∷ unit ∷ with_A 2 0 ∷ []) ∷ is (with_A 1 2 ∷ unit ∷ with_A 2 0 ∷ []) ∷ is (with_A 1 0 ∷ unit ∷ with_A 2 0 ∷ []) ∷ is (with_A 1 0 ∷ with_A 5 0 ∷ [])
    ∷ is (with_A 3 2 ∷ with_A 4 1 ∷ unit ∷ with_A 4 1 ∷ unit ∷ with_A 5 0 ∷ []) ∷ is (with_A 3 1 ∷ unit ∷ with_A 5 0 ∷ [])
    ∷ is [] ∷ is (with_A 2 0 ∷ []) ∷ is (with_A 4 1 ∷ []) ∷ is (unit ∷ unit ∷ []) ∷ formed book (take 23 (records_bytes (unit ∷ []))) text ∷ []
    ≡ true ∷ false ∷ false ∷ false
    ∷ true ∷ false
    ∷ false ∷ false ∷ false ∷ false ∷ false ∷ []
unfolding formed at_tape_end value_at body_by record_shape member_at several closing_record form_onward with_record leaf_fine leaf_ranges textual integer_fine sized only_b names_block empty only_a text_in block_is is_width unused undeclared declares opens closes is_key records_bytes record_bytes record_of step_at le_value le_bytes
balance = refl

-- 64 arrays, the innermost empty; with a unit in it; bytes 2 and 3 in use; bytes 4 to 7 a field block, past the book, or used in an end or a key
levels :
    is (nested 64 0 []) ∷ is (nested 64 1 (unit ∷ [])) ∷ is (nested 63 1 (unit ∷ []))
    ∷ is (record { kind = 13; width = 0; spare = 1; declared = 0; a = 0; b = 0 } ∷ []) ∷ is (typed 13 1 0 ∷ []) ∷ is (typed 13 3 0 ∷ [])
    ∷ is (with_A 1 0 ∷ typed 2 1 0 ∷ []) ∷ is (with_A 3 1 ∷ typed 4 1 1 ∷ unit ∷ with_A 5 0 ∷ []) ∷ []
    ≡ true ∷ false ∷ true ∷ false ∷ false ∷ false ∷ false ∷ false ∷ []
unfolding formed at_tape_end value_at body_by record_shape member_at several closing_record form_onward with_record leaf_fine leaf_ranges textual integer_fine sized only_b names_block empty only_a text_in block_is is_width unused undeclared declares opens closes is_key records_bytes record_bytes record_of step_at le_value le_bytes
levels = refl
