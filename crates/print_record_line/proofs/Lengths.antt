-- How long the line of a record is, where no name is longer than 200 bytes. Assumes nothing.
use mathlib.Core.Path.{◌≡◌}
use mathlib.Core.Bool.{false, ◌||◌}
use mathlib.Core.List.{List, [], ◌∷◌, ◌++◌}
use Prim.Native.Nat.{ℕ, ◌+◌, ◌*◌, ◌≤◌, ◌<◌}
use native.Mathlib.Omega.{arith}
use lib.ListN.{length, length-append}
use lib.Dec.{eqb, ltb}
use Rattle.enc_windows_1252.specs.Text.{decimal}
use Rattle.type_book.specs.Book.{name_of}
use Rattle.tape.specs.declared.record.Record.{Record}
use Rattle.tape.specs.Text.{name_in, record_text}
use Rattle.print_figures.specs.Figures.{signed, hex, hex_text}
use Rattle.print_figures.proofs.Lengths.{either, three-long, two_digits, word-digits, signed-short, hex-long, hexes_long}
use Rattle.print_record_line.specs.Line.{counted_line, named_line, sized_start, int_line, nat_line, real_line, text_word, text_line, number_line, line_of}

-- ---- the forms of lines

pub counted-long : (word : List ℕ) (n : ℕ) → length (counted_line word n) ≡ length word + length (decimal n) + 1
unfolding counted_line
counted-long word n = three-long word (decimal n) (0x0a ∷ [])

named-long : (word name : List ℕ) → length (named_line word name) ≡ length word + length name + 1
unfolding named_line
named-long word name = three-long word name (0x0a ∷ [])

sized-short : (word : List ℕ) (width : ℕ) → width ≤ 8 → length (sized_start word width) ≤ length word + 3
unfolding sized_start
sized-short word width h = omega (arith, three-long word (decimal (width * 8)) (0x20 ∷ []), two_digits (width * 8) (omega arith))

module _ (width n : ℕ) (w : width ≤ 8) (h : n < 18446744073709551616) where
  int-short : length (int_line width n) ≤ 206
  unfolding int_line
  int-short = omega (arith, three-long (sized_start (0x69 ∷ 0x6e ∷ 0x74 ∷ 0x20 ∷ []) width) (signed n) (0x0a ∷ []), sized-short (0x69 ∷ 0x6e ∷ 0x74 ∷ 0x20 ∷ []) width w, signed-short n (omega arith))

  nat_short : length (nat_line width n) ≤ 206
  unfolding nat_line
  nat_short = omega (arith, three-long (sized_start (0x6e ∷ 0x61 ∷ 0x74 ∷ 0x20 ∷ []) width) (decimal n) (0x0a ∷ []), sized-short (0x6e ∷ 0x61 ∷ 0x74 ∷ 0x20 ∷ []) width w, word-digits n (omega arith))

real_long : (word : List ℕ) (k n : ℕ) → length (real_line word k n) ≡ length word + k + 1
unfolding real_line
real_long word k n = omega (arith, three-long word (hex k n) (0x0a ∷ []), hex-long k n)

word-short : (w : ℕ) → length (text_word w) ≤ 7
unfolding text_word
word-short w = either (eqb w 0) _ _ 7 (omega arith) (omega arith)

pub text-short : (w : ℕ) (xs : List ℕ) → length (text_line w xs) ≤ 9 + 2 * length xs
unfolding text_line
text-short w [] = omega (arith, word-short w, length-append (text_word w) (0x0a ∷ []))
text-short w (x ∷ xs) =
    omega (arith, word-short w, length-append (text_word w) (0x20 ∷ []), three-long (text_word w ++ (0x20 ∷ [])) (hex_text (x ∷ xs)) (0x0a ∷ []), hexes_long (x ∷ xs))

-- ---- the line of a record that is no text

module _ (r : Record) (w : r.width ≤ 8) (h : r.b < 18446744073709551616) where
  number_short : length (number_line r) ≤ 206
  unfolding number_line
  number_short =
      either (eqb r.kind 6) _ _ 206 (omega (arith, counted-long (0x62 ∷ 0x6f ∷ 0x6f ∷ 0x6c ∷ 0x20 ∷ []) r.b, word-digits r.b (omega arith)))
      (either (eqb r.kind 7) _ _ 206 (int-short r.width r.b w h)
      (either (eqb r.kind 8) _ _ 206 (nat_short r.width r.b w h)
      (either (eqb r.kind 9) _ _ 206 (omega (arith, real_long (0x72 ∷ 0x65 ∷ 0x61 ∷ 0x6c ∷ 0x20 ∷ 0x34 ∷ 0x20 ∷ []) 8 r.b))
      (either (eqb r.kind 10) _ _ 206 (omega (arith, real_long (0x72 ∷ 0x65 ∷ 0x61 ∷ 0x6c ∷ 0x20 ∷ 0x38 ∷ 0x20 ∷ []) 16 r.b))
      (omega arith)))))

module _ (book : List ℕ) (names : (n : ℕ) → length (name_of book n) ≤ 200) where
  name-short : (n : ℕ) → length (name_in book n) ≤ 200
  unfolding name_in
  name-short n = either (ltb n 65536) _ _ 200 (names n) (omega arith)

  module _ (r : Record) (k : eqb r.kind 11 ≡ false) where
    part-short : length (record_text book [] r) ≤ 200
    unfolding record_text
    part-short = rw k (either (eqb r.kind 4 || eqb r.kind 12) _ _ 200 (name-short r.a) (omega arith))

    pub line_short : r.width ≤ 8 → r.a < 18446744073709551616 → r.b < 18446744073709551616 → length (line_of book [] r) ≤ 206
    unfolding line_of
    line_short w a b =
        rw k
        (either (eqb r.kind 1) _ _ 206 (omega (arith, counted-long (0x61 ∷ 0x72 ∷ 0x72 ∷ 0x61 ∷ 0x79 ∷ 0x20 ∷ []) r.a, word-digits r.a (omega arith)))
        (either (eqb r.kind 2) _ _ 206 (omega arith)
        (either (eqb r.kind 3) _ _ 206 (omega (arith, counted-long (0x6d ∷ 0x61 ∷ 0x70 ∷ 0x20 ∷ []) r.a, word-digits r.a (omega arith)))
        (either (eqb r.kind 4) _ _ 206 (omega (arith, named-long (0x6b ∷ 0x65 ∷ 0x79 ∷ 0x20 ∷ []) (record_text book [] r), part-short))
        (either (eqb r.kind 5) _ _ 206 (omega arith)
        (either (eqb r.kind 12) _ _ 206 (omega (arith, named-long (0x65 ∷ 0x6e ∷ 0x75 ∷ 0x6d ∷ 0x20 ∷ []) (record_text book [] r), part-short))
        (either (eqb r.kind 13) _ _ 206 (omega arith)
        (number_short r w b))))))))
