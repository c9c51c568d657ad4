-- The fields and the entries of a type by their names (document 01: the map and enum parts of serializer.rs). Assumes nothing.
use Rattle.std.specs.Prelude.{cond, List, ℕ, zero, suc, ◌+◌, Option, Some, None}
use Rattle.type_book.specs.Book.{fields_of, entries_of, name_of, same_name}

-- the first of the k blocks from block n on that has this name
unfoldable pub named_from : List ℕ → List ℕ → ℕ → ℕ → Option ℕ
named_from book name n zero = None
named_from book name n (suc k) = cond (same_name (name_of book n) name) (Some n) (named_from book name (n + 1) k)

-- the first field of type block t that has this name
abbrev pub field_named : List ℕ → ℕ → List ℕ → Option ℕ
field_named book t name = named_from book name (t + 1) (fields_of book t)

-- the first enum entry of type block t that has this name
abbrev pub entry_named : List ℕ → ℕ → List ℕ → Option ℕ
entry_named book t name = named_from book name (t + 1 + fields_of book t) (entries_of book t)
