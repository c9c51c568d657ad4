-- The bytes of an array and of its parts (document 01: the array's access file). Assumes nothing.
use Rattle.std.specs.Prelude.{◌≡◌, Bool, cond, List, ℕ, zero, suc, ◌+◌, ◌*◌, ◌-◌, ◌/◌, ◌<◌, eqb, leb}
use Rattle.type_book.specs.Book.{size_of, count_of, dimensions_of}

-- the product of the element counts of the k dimensions from the d-th on
unfoldable pub product_from : List ℕ → ℕ → ℕ → ℕ → ℕ
product_from book t d zero = 1
product_from book t d (suc k) = count_of book t d * product_from book t (d + 1) k

-- the number of bytes of array t's elements, of type e, that one index of dimension d covers
unfoldable pub stride_of : List ℕ → ℕ → ℕ → ℕ → ℕ
stride_of book d t e = size_of book e * product_from book t (d + 1) (dimensions_of book t - (d + 1))

-- dimension d of array t is its last
unfoldable pub is_last : List ℕ → ℕ → ℕ → Bool
is_last book d t = leb (dimensions_of book t) (d + 1)

-- the bytes of the whole array: its element's size times all its counts
unfoldable pub array_bytes : List ℕ → ℕ → ℕ → ℕ
array_bytes book t e = count_of book t 0 * stride_of book 0 t e

-- array t's dimensions from the d-th on, with elements of type e, fill `len` bytes
pub record Fills (book : List ℕ) (d t e len : ℕ) : Type 0 where
  pub fills : count_of book t d * stride_of book d t e ≡ len

-- one index of dimension d covers `len` bytes
pub record FillsNext (book : List ℕ) (d t e len : ℕ) : Type 0 where
  pub fills : stride_of book d t e ≡ len

-- the length of each of n equal parts of `len` bytes, rounded down; 0 where there is no part
abbrev pub equal_part : ℕ → ℕ → ℕ
equal_part n len = cond (eqb n 0) 0 (len / n)

-- r is the length of each of n equal parts of `len` bytes; where such parts fill them, it is what they are long
pub record StrideIs (n len r : ℕ) : Type 0 where
  pub part : r ≡ equal_part n len
  pub is : (k : ℕ) → 0 < n → n * k ≡ len → r ≡ k
