-- Blocks of a type book, made from what they say (document 01, "The type book"). Assumes nothing.
use Rattle.std.specs.Prelude.{List, ◌∷◌, ◌++◌, ℕ, ◌-◌, length, replicate}
use Rattle.enc_number.specs.Le.{le_bytes}
use Rattle.type_block_form.specs.Form.{sum_of}

-- bytes, filled up with zeros
abbrev pub filled_up : ℕ → List ℕ → List ℕ
filled_up n bytes = bytes ++ replicate (n - length bytes) 0

-- a block's bytes with their sum after them
abbrev pub summed : List ℕ → List ℕ
summed bytes = bytes ++ le_bytes 4 (sum_of bytes)

-- a block of a kind: bytes 4 to 7 and 8 to 11, the counts of fields and entries, name and type name; flags, dimensions and values 0
unfoldable pub block : ℕ → ℕ → ℕ → ℕ → List ℕ → List ℕ → List ℕ
block kind low size fields name type_name =
    summed
    (kind ∷ 0 ∷ 0 ∷ 0 ∷ (le_bytes 4 low ++ le_bytes 4 size ++ le_bytes 4 fields ++ replicate 36 0
    ++ (length name ∷ length type_name ∷ (filled_up 200 name ++ filled_up 200 type_name ++ replicate 54 0))))

-- a type block: id, size, number of fields, name, type name
abbrev pub type_block : ℕ → ℕ → ℕ → List ℕ → List ℕ → List ℕ
type_block id size fields name type_name = block 1 id size fields name type_name

-- a field block: offset, size, name, type name
abbrev pub field_block : ℕ → ℕ → List ℕ → List ℕ → List ℕ
field_block offset size name type_name = block 2 offset size 0 name type_name
