-- What the sorting left, held against the book. No contract of a public function cites this. Assumes nothing.
use Rattle.std.specs.Prelude.{◌≡◌, Bool, true, List, ℕ, ◌-◌, ◌*◌, ◌/◌, ◌%◌, ◌^◌, ◌<◌, get_or}
use Rattle.type_book.specs.Book.{blocks, is_type, name_of}
use Rattle.type_order.specs.Names.{Less}

-- number i of a list that has two numbers of 16 bits in each of 32, the lower half first
unfoldable pub number_at : List ℕ → ℕ → ℕ
number_at order i = get_or order (i / 2) 0 / 2 ^ (16 * (i % 2)) % 65536

-- the first r names of the order rise
pub record RisesTo (book order : List ℕ) (r : ℕ) : Type 0 where
  pub first : 0 < r
  pub each : (i : ℕ) → 0 < i → i < r → Less (name_of book (number_at order (i - 1))) (name_of book (number_at order i))

-- block b is listed at a place below n
pub record Listed (order : List ℕ) (n b : ℕ) : Type 0 where
  pub rank : ℕ
  pub below : rank < n
  pub is : number_at order rank ≡ b

-- a block that passes is listed, if it is a type block
pub record RankIs (book order : List ℕ) (n b : ℕ) (r : Bool) : Type 0 where
  pub is : r ≡ true → is_type book b ≡ true → Listed order n b

-- each type block before block m is listed
pub record RankedTo (book order : List ℕ) (n m : ℕ) : Type 0 where
  pub all : (b : ℕ) → b < m → is_type book b ≡ true → Listed order n b

-- a book that passes has all its type blocks listed
pub record RankedIs (book order : List ℕ) (n : ℕ) (r : Bool) : Type 0 where
  pub is : r ≡ true → RankedTo book order n (blocks book)
