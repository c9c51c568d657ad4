-- The check of a book: what its answers say. Assumes nothing.
use mathlib.Core.Path.{◌≡◌, refl}
use mathlib.Core.Bool.{Bool, true, false, cond, ◌&&◌}
use mathlib.Core.List.{List}
use Prim.Native.Nat.{ℕ, ◌/◌, ◌%◌, ◌≤◌}
use native.Mathlib.Omega.{arith}
use borrow.Author.Tests.{eq-eqb, le-leb, leb-true}
use lib.ListN.{length}
use lib.Seq.{take-length}
use lib.Dec.{leb}
use Rattle.type_doubles.specs.Doubles.{distinct}
use Rattle.type_book_check.specs.Check.{size_right, sums, all_in_place, check_blocks, check_book, ValidBook}
use Rattle.type_book_check.specs.declared.BookCheck.{BookCheck}
use Rattle.type_book_check.specs.declared.BookCheck.TheVariants.{Valid, Size}

pub and_left : (a b : Bool) → a && b ≡ true → a ≡ true
and_left true b e = refl
and_left false b e = e

pub and_right : (a b : Bool) → a && b ≡ true → b ≡ true
and_right true b e = e
and_right false b e = cc

-- a valid book lies in its buffer
module _ (buffer : List ℕ) (len : ℕ) where
  inside : (t u : Bool) (k : BookCheck) → leb len (length buffer) ≡ t → cond (t && u) k Size ≡ Valid → len ≤ length buffer
  inside true u k e h = leb-true _ _ e
  inside false u k e h = let z : ◌≡◌ {A = ℕ} 0 1 = cc in absurd (omega arith)

  pub book-fits : check_book buffer len ≡ Valid → len ≤ length buffer
  unfolding check_book size_right
  book-fits h = inside (leb len (length buffer)) _ _ refl h

-- a book that passes each test is valid
pub valid_of : (book : List ℕ) → length book % 512 ≡ 0 → length book / 512 ≤ 65536 → sums book ≡ true → all_in_place book ≡ true → distinct book ≡ true
    → ValidBook book
unfolding check_book check_blocks size_right
valid_of book whole few s p d =
    let fits : length book ≤ length book = omega arith in
    rw (
      take-length book,
      le-leb (length book) (length book) fits,
      eq-eqb (length book % 512) 0 whole,
      le-leb (length book / 512) 65536 few,
      s,
      p,
      d,
    )
