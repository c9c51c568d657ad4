-- The type book as its list of bytes: what each byte of a block says (document 01, "The type book").
-- Past the end every byte is 0 and every part is empty. Assumes nothing.
use Rattle.std.specs.Prelude.{Bool, true, false, ◌&&◌, List, [], ◌∷◌, ℕ, ◌+◌, ◌*◌, ◌/◌, ◌%◌, ◌^◌, length, get_or, take, drop, eqb}
use Rattle.enc_number.specs.Le.{le_value}

-- the number of whole blocks of 512 bytes
abbrev pub blocks : List ℕ → ℕ
blocks book = length book / 512

-- the bytes of block n
abbrev pub block_of : List ℕ → ℕ → List ℕ
block_of book n = take 512 (drop (n * 512) book)

-- byte k of block n
abbrev pub byte_at : List ℕ → ℕ → ℕ → ℕ
byte_at book n k = get_or book (n * 512 + k) 0

-- the little-endian number in the four bytes from byte k of block n on
abbrev pub u32_at : List ℕ → ℕ → ℕ → ℕ
u32_at book n k = le_value (take 4 (drop (n * 512 + k) book))

-- byte 0: 1 a type, 2 a field, 3 an enum entry
abbrev pub kind_of : List ℕ → ℕ → ℕ
kind_of book n = byte_at book n 0

-- a type block is one of kind 1
abbrev pub is_type : List ℕ → ℕ → Bool
is_type book n = eqb (kind_of book n) 1

-- bit i of byte 1: 0 pointer, 1 reference, 2 enum, 3 has methods, 4 TcImplements, 5 a STRING in UTF-8
abbrev pub flag_of : List ℕ → ℕ → ℕ → Bool
flag_of book n i = eqb (byte_at book n 1 / 2 ^ i % 2) 1

-- byte 2: the number of dimensions of an array, 0 for another type
abbrev pub dimensions_of : List ℕ → ℕ → ℕ
dimensions_of book n = byte_at book n 2

-- bytes 4 to 7: a type's id
abbrev pub type_id_of : List ℕ → ℕ → ℕ
type_id_of book n = u32_at book n 4

-- the same bytes: a field's offset
abbrev pub offset_of : List ℕ → ℕ → ℕ
offset_of book n = u32_at book n 4

-- bytes 8 to 11: the size of a type or a field
abbrev pub size_of : List ℕ → ℕ → ℕ
size_of book n = u32_at book n 8

-- bytes 12 to 15: the number of field blocks after a type block
abbrev pub fields_of : List ℕ → ℕ → ℕ
fields_of book n = u32_at book n 12

-- bytes 16 to 19: the number of enum entry blocks after those
abbrev pub entries_of : List ℕ → ℕ → ℕ
entries_of book n = u32_at book n 16

-- the count of elements of dimension i, from 0 on: four bytes each, from byte 20 on
abbrev pub count_of : List ℕ → ℕ → ℕ → ℕ
count_of book n i = u32_at book n (20 + 4 * i)

-- an entry's value: as many bytes as byte 1 says, from byte 20 on
abbrev pub value_of : List ℕ → ℕ → List ℕ
value_of book n = take (byte_at book n 1) (drop (n * 512 + 20) book)

-- the name: as many bytes as byte 52 says, from byte 54 on
abbrev pub name_of : List ℕ → ℕ → List ℕ
name_of book n = take (byte_at book n 52) (drop (n * 512 + 54) book)

-- the type name: as many bytes as byte 53 says, from byte 254 on
abbrev pub type_name_of : List ℕ → ℕ → List ℕ
type_name_of book n = take (byte_at book n 53) (drop (n * 512 + 254) book)

-- two names are the same bytes
unfoldable pub same_name : List ℕ → List ℕ → Bool
same_name [] [] = true
same_name [] (y ∷ ys) = false
same_name (x ∷ xs) [] = false
same_name (x ∷ xs) (y ∷ ys) = eqb x y && same_name xs ys

-- block n is a type block of that name
unfoldable pub is_named : List ℕ → List ℕ → ℕ → Bool
is_named book name n = is_type book n && same_name (name_of book n) name
