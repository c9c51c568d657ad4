-- The category of a type: `AdsTypeCategory::determine` of the Rust, on block n of a type book. The first test that holds
-- decides, in the Rust's order. Nothing here looks at the block's kind. Assumes nothing.
use Rattle.std.specs.Prelude.{Bool, cond, not, ◌&&◌, ◌||◌, List, ℕ, ◌+◌, ◌%◌, length, eqb, ltb, Option, Some, None}
use Rattle.type_id.specs.declared.AdsTypeId.{AdsTypeId}
use Rattle.type_id.specs.declared.AdsTypeId.TheVariants as id
use Rattle.type_id.specs.TypeId.{id_of}
use Rattle.type_book.specs.Book.{flag_of, dimensions_of, type_id_of, offset_of, size_of, fields_of, name_of, type_name_of, same_name}
use Rattle.type_names.specs.Text.{ascii_bytes, starts_with}
use Rattle.type_names.specs.Names.{is_pointer_name, is_sub_range_name, is_primitive_name}
use Rattle.type_category.specs.declared.type_category.AdsTypeCategory.{AdsTypeCategory}
use Rattle.type_category.specs.declared.type_category.AdsTypeCategory.TheVariants.{None, Primitive, Alias, Enum, Array, Struct, FunctionBlock, SubRange, String, Bitset, Pointer, Union, Reference, Interface}

-- the type has fields
abbrev pub has_fields : List ℕ → ℕ → Bool
has_fields book n = ltb 0 (fields_of book n)

-- the type has methods
abbrev pub has_methods : List ℕ → ℕ → Bool
has_methods book n = flag_of book n 3

-- the type has a type name
abbrev pub has_type_name : List ℕ → ℕ → Bool
has_type_name book n = ltb 0 (length (type_name_of book n))

-- the type implements an interface: it has the attribute TcImplements
abbrev pub implements : List ℕ → ℕ → Bool
implements book n = flag_of book n 4

-- a pointer, by its flag or by its name
unfoldable pub is_pointer : List ℕ → ℕ → Bool
is_pointer book n = flag_of book n 0 || is_pointer_name (name_of book n)

-- a reference, by its flag or by its name
unfoldable pub is_reference : List ℕ → ℕ → Bool
is_reference book n = flag_of book n 1 || starts_with (name_of book n) (ascii_bytes "REFERENCE TO")

-- an array has a dimension
abbrev pub is_array : List ℕ → ℕ → Bool
is_array book n = ltb 0 (dimensions_of book n)

-- an enum, by its flag
abbrev pub is_enum : List ℕ → ℕ → Bool
is_enum book n = flag_of book n 2

-- an alias has a type name, and neither fields nor methods
unfoldable pub is_alias : List ℕ → ℕ → Bool
is_alias book n = has_type_name book n && not (has_fields book n) && not (has_methods book n)

-- the type id alone decides primitives, strings and bitsets
abbrev pub id_step : AdsTypeId → Option AdsTypeCategory
id_step id.Void = None
id_step id.Int16 = Some Primitive
id_step id.Int32 = Some Primitive
id_step id.Real32 = Some Primitive
id_step id.Real64 = Some Primitive
id_step id.Int8 = Some Primitive
id_step id.UInt8 = Some Primitive
id_step id.UInt16 = Some Primitive
id_step id.UInt32 = Some Primitive
id_step id.Int64 = Some Primitive
id_step id.UInt64 = Some Primitive
id_step id.String = Some String
id_step id.WString = Some String
id_step id.Real80 = Some Primitive
id_step id.Bit = Some Bitset
id_step id.MaxTypes = None
id_step id.BigType = None
id_step (id.Unknown k) = None

-- the category that a step decides, or else the next step's
unfoldable pub or_else : Option AdsTypeCategory → AdsTypeCategory → AdsTypeCategory
or_else (Some c) next = c
or_else None next = next

-- a union has two fields or more, the first two at one offset, and neither a type name nor methods
unfoldable pub is_union : List ℕ → ℕ → Bool
is_union book n = ltb 1 (fields_of book n) && not (has_type_name book n) && not (has_methods book n) && eqb (offset_of book (n + 1)) (offset_of book (n + 2))

-- of a type with methods: one that implements no interface is one itself if it has no fields or is as wide as a pointer
unfoldable pub methods_category : List ℕ → ℕ → ℕ → AdsTypeCategory
methods_category book width n =
    cond (implements book n) FunctionBlock
    (cond (not (has_fields book n)) Interface
    (cond (eqb (size_of book n) width) Interface FunctionBlock))

-- of a type with fields and no methods: a first field that does not start at 0 tells the hidden state of a function block
unfoldable pub fields_category : List ℕ → ℕ → AdsTypeCategory
fields_category book n = cond (ltb 0 (offset_of book (n + 1))) FunctionBlock Struct

-- a struct without fields has a name and the size 0
unfoldable pub is_empty_struct : List ℕ → ℕ → Bool
is_empty_struct book n = ltb 0 (length (name_of book n)) && eqb (size_of book n) 0

-- of a type with nothing else, by its size: over 8 and a multiple of 4 a function block, 4 or 8 an interface
unfoldable pub bare_category : ℕ → AdsTypeCategory
bare_category size =
    cond (eqb (size % 4) 0 && ltb 8 size) FunctionBlock
    (cond (eqb size 4 || eqb size 8) Interface None)

-- of a type with neither fields nor methods: an empty struct, a function block by its attribute, or by size
unfoldable pub size_category : List ℕ → ℕ → AdsTypeCategory
size_category book n =
    cond (is_empty_struct book n) Struct
    (cond (implements book n) FunctionBlock (bare_category (size_of book n)))

-- unions, then types with methods, then types with fields, then the rest
unfoldable pub complex_category : List ℕ → ℕ → ℕ → AdsTypeCategory
complex_category book width n =
    cond (is_union book n) Union
    (cond (has_methods book n) (methods_category book width n)
    (cond (has_fields book n) (fields_category book n) (size_category book n)))

-- aliases (BOOL excepted), then what the type id decides, then primitives by name, then the complex types
unfoldable pub simple_category : List ℕ → ℕ → ℕ → AdsTypeCategory
simple_category book width n =
    cond (is_alias book n) (cond (same_name (name_of book n) (ascii_bytes "BOOL")) Primitive Alias)
    (or_else (id_step (id_of (type_id_of book n)))
    (cond (is_primitive_name (name_of book n)) Primitive (complex_category book width n)))

-- the category of block n, for pointers of `width` bytes: pointers, references, arrays, enums, subranges, then the rest
unfoldable pub category_of : List ℕ → ℕ → ℕ → AdsTypeCategory
category_of book width n =
    cond (is_pointer book n) Pointer
    (cond (is_reference book n) Reference
    (cond (is_array book n) Array
    (cond (is_enum book n) Enum
    (cond (is_sub_range_name (name_of book n)) SubRange
    (simple_category book width n)))))
