-- Tests on a name, as the Rust's `==`, `starts_with` and `contains` make them. A name is the list of its bytes. Assumes nothing.
use Rattle.std.specs.Prelude.{Bool, false, ◌||◌, List, [], ◌∷◌, ℕ, length, take}
use Prim.Native.Char.{code}
use Prim.Native.String.{String}
use Prim.Native.String as string
use Rattle.type_book.specs.Book.{same_name}

-- the bytes of an ASCII text: the code of each of its characters
abbrev pub ascii_bytes : String → List ℕ
ascii_bytes string.[] = []
ascii_bytes (string.◌∷◌ c s) = code c ∷ ascii_bytes s

-- the name is one of these
unfoldable pub is_one_of : List ℕ → List (List ℕ) → Bool
is_one_of name [] = false
is_one_of name (t ∷ ts) = same_name name t || is_one_of name ts

-- the name begins with these bytes
unfoldable pub starts_with : List ℕ → List ℕ → Bool
starts_with name start = same_name (take (length start) name) start

-- these bytes stand somewhere in the name
unfoldable pub contains : List ℕ → List ℕ → Bool
contains [] part = starts_with [] part
contains (x ∷ xs) part = starts_with (x ∷ xs) part || contains xs part
