-- What a type's name alone tells of it, as `AdsTypeCategory::determine` of the Rust takes it. Assumes nothing.
use Rattle.std.specs.Prelude.{Bool, ◌&&◌, ◌||◌, List, [], ◌∷◌, ℕ}
use Rattle.type_names.specs.Text.{ascii_bytes, is_one_of, starts_with, contains}

-- a pointer's name is PVOID or PCCH, or begins with POINTER TO
unfoldable pub is_pointer_name : List ℕ → Bool
is_pointer_name name = is_one_of name (ascii_bytes "PVOID" ∷ ascii_bytes "PCCH" ∷ []) || starts_with name (ascii_bytes "POINTER TO")

-- a subrange's name has two dots and both parentheses, wherever they stand
unfoldable pub is_sub_range_name : List ℕ → Bool
is_sub_range_name name = contains name (ascii_bytes "..") && contains name (ascii_bytes "(") && contains name (ascii_bytes ")")

-- the date and time types of IEC 61131-3
abbrev pub time_names : List (List ℕ)
time_names = ascii_bytes "TOD" ∷ ascii_bytes "DT" ∷ ascii_bytes "TIME" ∷ ascii_bytes "DATE" ∷ ascii_bytes "LTIME" ∷ ascii_bytes "TIME_OF_DAY" ∷ ascii_bytes "DATE_AND_TIME" ∷ []

-- the integers that are as wide as a pointer
abbrev pub pointer_sized_names : List (List ℕ)
pointer_sized_names = ascii_bytes "UXINT" ∷ ascii_bytes "XINT" ∷ ascii_bytes "XWORD" ∷ ascii_bytes "__UXINT" ∷ ascii_bytes "__XINT" ∷ ascii_bytes "__XWORD" ∷ []

-- a primitive by its name
unfoldable pub is_primitive_name : List ℕ → Bool
is_primitive_name name = is_one_of name time_names || is_one_of name pointer_sized_names
