-- How long a refusal's line and the head are. Assumes nothing.
use mathlib.Core.List.{List, [], ◌∷◌}
use Prim.Native.Nat.{ℕ, ◌≤◌, ◌<◌}
use native.Mathlib.Omega.{arith}
use lib.ListN.{length}
use Rattle.type_book.specs.Book.{name_of}
use Rattle.print_figures.proofs.Lengths.{three-long, two_digits, four-digits}
use Rattle.print_record_line.specs.Line.{counted_line}
use Rattle.print_record_line.proofs.Lengths.{counted-long}
use Rattle.print_lines.specs.Lines.{head_line, refused_line}

pub refused-short : (n : ℕ) → n < 100 → length (refused_line n) ≤ 11
unfolding refused_line
refused-short n h = omega (arith, counted-long (0x72 ∷ 0x65 ∷ 0x66 ∷ 0x75 ∷ 0x73 ∷ 0x65 ∷ 0x64 ∷ 0x20 ∷ []) n, two_digits n h)

pub head_short : (book : List ℕ) (n memory : ℕ) → length (name_of book n) ≤ 200 → memory < 10000 → length (head_line book n memory) ≤ 211
unfolding head_line
head_short book n memory h l =
    omega (arith, three-long (0x77 ∷ 0x61 ∷ 0x6c ∷ 0x6b ∷ 0x20 ∷ []) (name_of book n) (counted_line (0x20 ∷ []) memory), counted-long (0x20 ∷ []) memory, four-digits memory l)
