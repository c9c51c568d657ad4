-- The look-up of a type by its name (`TypeProvider::get_type_info` of the Rust). Assumes nothing.
use Rattle.std.specs.Prelude.{◌≡◌, Bool, true, false, cond, List, [], ◌∷◌, ℕ, zero, suc, ◌+◌, ◌<◌, min, Option, Some, None}
use Rattle.enc_number.specs.Refusals as refusal
use Rattle.type_book.specs.Book.{blocks, is_type, name_of, is_named}

-- document 01's number and values of a look-up's answer: 0 and the block, or 7
unfoldable pub found_numbers : Option ℕ → List ℕ
found_numbers (Some n) = 0 ∷ n ∷ []
found_numbers None = refusal.not_found ∷ []

-- the number of blocks that a look-up searches: 65,536 at most, since a longer book is refused (1) before any look-up
abbrev pub searched : List ℕ → ℕ
searched book = min (blocks book) 65536

-- the first type block of that name among the k blocks from block i on
unfoldable pub find_from : List ℕ → List ℕ → ℕ → ℕ → Option ℕ
find_from book name i zero = None
find_from book name i (suc k) = let later = find_from book name (i + 1) k in cond (is_named book name i) (Some i) later

-- the first type block of that name
unfoldable pub find : List ℕ → List ℕ → Option ℕ
find book name = find_from book name 0 (searched book)

-- a look-up has found a type
abbrev pub is_found : Option ℕ → Bool
is_found (Some n) = true
is_found None = false

-- block n is a type block, and is searched
pub record TypeBlock (book : List ℕ) (n : ℕ) : Type 0 where
  pub below : n < searched book
  pub kind : is_type book n ≡ true

-- block n is a type block of that name, and is searched
pub record NamedBlock (book name : List ℕ) (n : ℕ) : Type 0 where
  pub below : n < searched book
  pub named : is_named book name n ≡ true

-- no two type blocks have one name: the look-up of a type block's own name finds that block
abbrev pub UniqueNames : List ℕ → Type 0
UniqueNames book = (n : ℕ) → TypeBlock book n → find book (name_of book n) ≡ Some n
