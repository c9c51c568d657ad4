-- An index of a book's names that is filled block by block: whether each type found a slot. Assumes nothing.
use Rattle.std.specs.Prelude.{◌≡◌, Bool, true, cond, not, ◌&&◌, ◌||◌, List, ℕ, zero, suc, ◌+◌, length, replicate, ltb}
use Rattle.type_book.specs.Book.{is_type, name_of}
use Rattle.type_provider.specs.Find.{searched}
use Rattle.type_index.specs.declared.Trust.{Trust}
use Rattle.type_index.specs.declared.Trust.TheVariants as trust
use Rattle.type_index.specs.Index.{free_of, entered, names_index}

-- block n is no type block, or a slot of the index is free for its name
unfoldable pub finds_slot : List ℕ → List ℕ → ℕ → Bool
finds_slot book index n = not (is_type book n) || ltb (free_of book index (name_of book n)) (length index)

-- so it is with the k blocks from block n on, each after those before it were entered
unfoldable pub fit_from : List ℕ → List ℕ → ℕ → ℕ → Bool
fit_from book index n zero = true
fit_from book index n (suc k) = finds_slot book index n && fit_from book (entered book index n) (n + 1) k

-- every type of the book finds a slot in an index of len numbers
unfoldable pub all_fit : List ℕ → ℕ → Bool
all_fit book len = fit_from book (replicate len 0) 0 (searched book)

-- block n is entered, and what is said of those before it holds of all up to it, or does not
pub record HeldNext (book index : List ℕ) (n : ℕ) (all r : Bool) (index' : List ℕ) : Type 0 where
  pub answer : r ≡ all && finds_slot book index n
  pub numbers : index' ≡ entered book index n

-- the index of the names, and what is known of it
pub record FilledIs (book : List ℕ) (len : ℕ) (r : Trust) (index' : List ℕ) : Type 0 where
  pub answer : r ≡ cond (all_fit book len) trust.Held trust.Foreign
  pub numbers : index' ≡ names_index book len
