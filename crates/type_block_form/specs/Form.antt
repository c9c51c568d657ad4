-- Refusals 2 and 3 of one block, as its list of 512 bytes: its sum, and the bytes that each kind allows (document 01, "The type book").
-- Assumes nothing.
use Rattle.std.specs.Prelude.{Bool, true, cond, ◌&&◌, List, [], ◌∷◌, ℕ, ◌+◌, ◌*◌, ◌-◌, get_or, take, drop, length, eqb, leb, ltb}
use Rattle.enc_number.specs.Le.{le_value}

-- the bytes of a block from byte f up to, not including, byte t
abbrev pub part : ℕ → ℕ → List ℕ → List ℕ
part f t block = take (t - f) (drop f block)

-- the sum of a list of bytes
unfoldable pub sum_of : List ℕ → ℕ
sum_of [] = 0
sum_of (x ∷ xs) = x + sum_of xs

-- bytes 508 to 511 hold the sum of the block's other 508 bytes
unfoldable pub sum_right : List ℕ → Bool
sum_right block = eqb (le_value (take 4 (drop 508 block))) (sum_of (take 508 block))

-- every byte of a list passes a test
unfoldable pub every : (ℕ → Bool) → List ℕ → Bool
every p [] = true
every p (x ∷ xs) = p x && every p xs

-- a byte is 0
abbrev pub is_zero : ℕ → Bool
is_zero x = eqb x 0

-- a byte of a name: 20h to 7Eh
abbrev pub is_printable : ℕ → Bool
is_printable x = leb 32 x && leb x 126

-- the first `used` bytes of a part are free, and the others are 0
unfoldable pub unused_zero : ℕ → List ℕ → Bool
unused_zero used bytes = leb used (length bytes) && every is_zero (drop used bytes)

-- a name of `len` bytes in a part of 200: 0 to 200 printable bytes, and zeros after them
unfoldable pub name_form : ℕ → List ℕ → Bool
name_form len bytes = unused_zero len bytes && every is_printable (take len bytes)

-- bytes 52 to 507 of any block: the two lengths, the two names, and zeros
unfoldable pub names_form : List ℕ → Bool
names_form block =
    name_form (get_or block 52 0) (part 54 254 block)
    && (name_form (get_or block 53 0) (part 254 454 block) && every is_zero (part 454 508 block))

-- byte 1 of a type block, by its type id: bits 0 to 4, and bit 5 on an id 30 (STRING), whatever the category is
unfoldable pub flags_form : ℕ → ℕ → Bool
flags_form flags id = cond (eqb id 30) (ltb flags 64) (ltb flags 32)

-- a type block: flags that its type id allows, at most eight dimensions, the counts that they use, two names
unfoldable pub type_form : List ℕ → Bool
type_form block =
    eqb (get_or block 0 0) 1
    && (flags_form (get_or block 1 0) (le_value (part 4 8 block))
    && (leb (get_or block 2 0) 8
    && (eqb (get_or block 3 0) 0 && (unused_zero (get_or block 2 0 * 4) (part 20 52 block) && names_form block))))

-- a field block: an offset, a size, two names
unfoldable pub field_form : List ℕ → Bool
field_form block =
    eqb (get_or block 0 0) 2
    && (every is_zero (part 1 4 block) && (every is_zero (part 12 52 block) && names_form block))

-- an enum entry: a value of at most eight bytes, and a name
unfoldable pub entry_form : List ℕ → Bool
entry_form block =
    eqb (get_or block 0 0) 3
    && (leb (get_or block 1 0) 8
    && (every is_zero (part 2 20 block)
    && (unused_zero (get_or block 1 0) (part 20 52 block) && (eqb (get_or block 53 0) 0 && names_form block))))
