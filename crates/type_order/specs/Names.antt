-- Different names, and an order of names that tells them apart. Assumes nothing.
use Rattle.std.specs.Prelude.{◌≡◌, Bool, true, List, ℕ, ◌*◌, ◌<◌, take, drop}
use Rattle.enc_number.specs.Le.{le_value}
use Rattle.type_book.specs.Book.{blocks, is_type, name_of}
use Rattle.type_order.specs.declared.Order.{Order}
use Rattle.type_order.specs.declared.Order.TheVariants.{Distinct, Doubled, Unknown}

-- ---- what a decision says

-- no two type blocks of the book have one name
pub record Apart (book : List ℕ) : Type 0 where
  pub all : (a b : ℕ) → a < b → b < blocks book → is_type book a ≡ true → is_type book b ≡ true → name_of book a ≡ name_of book b → ⊥

-- two type blocks of the book have one name
pub record Twice (book : List ℕ) : Type 0 where
  pub one : ℕ
  pub two : ℕ
  pub before : one < two
  pub inside : two < blocks book
  pub kind : is_type book one ≡ true
  pub kind₂ : is_type book two ≡ true
  pub same : name_of book two ≡ name_of book one

-- what each decision says of the book; an unknown order says nothing
abbrev pub decided_by : List ℕ → Order → Type 0
decided_by book Distinct = Apart book
decided_by book Doubled = Twice book
decided_by book Unknown = Unit {0}

-- what a decision says holds
pub record OrderDecided (book : List ℕ) (r : Order) : Type 0 where
  pub holds : decided_by book r

-- ---- the order

-- part k of a name: its eight bytes from place 8 k on, or those that there are, as one number
unfoldable pub word_at : List ℕ → ℕ → ℕ
word_at name k = le_value (take 8 (drop (8 * k) name))

-- two names have their first k parts in common
pub record SameTo (a b : List ℕ) (k : ℕ) : Type 0 where
  pub all : (j : ℕ) → j < k → word_at a j ≡ word_at b j

-- a name stands before another: by the first part in which they differ
pub record Less (a b : List ℕ) : Type 0 where
  pub place : ℕ
  pub same : SameTo a b place
  pub less : word_at a place < word_at b place

-- a name that is said to stand before another does
pub record LessIs (a b : List ℕ) (r : Bool) : Type 0 where
  pub is : r ≡ true → Less a b

-- the same of the names of two blocks
pub record LessAt (book : List ℕ) (a b : ℕ) (r : Bool) : Type 0 where
  pub is : r ≡ true → Less (name_of book a) (name_of book b)
