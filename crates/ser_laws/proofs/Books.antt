-- Small books for worked examples. Assumes nothing.
use mathlib.Core.List.{List, [], ◌∷◌, ◌++◌}
use Prim.Native.Nat.{ℕ, ◌-◌}
use lib.ListN.{length, replicate}
use Rattle.enc_number.specs.Le.{le_bytes}
use Rattle.type_block_form.specs.Form.{sum_of}

-- bytes, filled up with zeros
unfoldable pub filled : ℕ → List ℕ → List ℕ
filled n bytes = bytes ++ replicate (n - length bytes) 0

-- a block: kind, byte 1, bytes 4 to 7, 8 to 11, 12 to 15 and 16 to 19, the bytes from 20 on, name and type name
unfoldable pub made : ℕ → ℕ → ℕ → ℕ → ℕ → ℕ → List ℕ → List ℕ → List ℕ → List ℕ
made kind flags low size fields entries value name type_name =
    let bytes : List ℕ =
    kind ∷ flags ∷ 0 ∷ 0 ∷ (le_bytes 4 low ++ le_bytes 4 size ++ le_bytes 4 fields ++ le_bytes 4 entries ++ filled 32 value
    ++ (length name ∷ length type_name ∷ (filled 200 name ++ filled 200 type_name ++ replicate 54 0))) in
    bytes ++ le_bytes 4 (sum_of bytes)

-- a type T without fields: id and size
unfoldable pub bare : ℕ → ℕ → List ℕ
bare id size = made 1 0 id size 0 0 [] (0x54 ∷ []) []

-- an enum of one byte, with two entries of these names, 1 and 2
unfoldable pub enum : ℕ → ℕ → List ℕ
enum x y = made 1 4 17 1 0 2 [] (0x45 ∷ []) [] ++ made 3 1 0 0 0 0 (1 ∷ []) (x ∷ []) [] ++ made 3 1 0 0 0 0 (2 ∷ []) (y ∷ []) []

-- a struct of two bytes, with two fields of these names and of the type T, an unsigned byte
unfoldable pub struct : ℕ → ℕ → List ℕ
struct x y =
    made 1 0 65 2 2 0 [] (0x53 ∷ []) [] ++ made 2 0 0 1 0 0 [] (x ∷ []) (0x54 ∷ []) ++ made 2 0 1 1 0 0 [] (y ∷ []) (0x54 ∷ []) ++ bare 17 1
