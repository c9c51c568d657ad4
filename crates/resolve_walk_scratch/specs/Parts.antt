-- What a type is made of, and the blocks that name it (document 01, "resolvers.rs"). Assumes nothing.
use Rattle.std.specs.Prelude.{List, [], ◌∷◌, ℕ, zero, suc, ◌+◌}
use Rattle.type_book.specs.Book.{fields_of}
use Rattle.type_category.specs.declared.type_category.AdsTypeCategory.{AdsTypeCategory}
use Rattle.type_category.specs.declared.type_category.AdsTypeCategory.TheVariants as category
use Rattle.type_category.specs.Category.{category_of}
use Rattle.resolve_walk_scratch.specs.declared.ScratchParts.{ScratchParts}
use Rattle.resolve_walk_scratch.specs.declared.ScratchParts.TheVariants.{Element, Fields, Nothing}

-- an array is made of its element type; a struct, a union or a function block of the types of its fields
abbrev pub parts_kind : AdsTypeCategory → ScratchParts
parts_kind category.Array = Element
parts_kind category.Struct = Fields
parts_kind category.Union = Fields
parts_kind category.FunctionBlock = Fields
parts_kind category.None = Nothing
parts_kind category.Primitive = Nothing
parts_kind category.Alias = Nothing
parts_kind category.Enum = Nothing
parts_kind category.Program = Nothing
parts_kind category.Function = Nothing
parts_kind category.SubRange = Nothing
parts_kind category.String = Nothing
parts_kind category.Bitset = Nothing
parts_kind category.Pointer = Nothing
parts_kind category.Reference = Nothing
parts_kind category.Interface = Nothing

-- the k blocks after block t, the last one first
unfoldable pub blocks_after : ℕ → ℕ → List ℕ
blocks_after t zero = []
blocks_after t (suc k) = (t + suc k) ∷ blocks_after t k

-- the blocks that name what type block t is made of, by the kind of its parts
unfoldable pub parts_in : List ℕ → ℕ → ScratchParts → List ℕ
parts_in book t Element = t ∷ []
parts_in book t Fields = blocks_after t (fields_of book t)
parts_in book t Nothing = []

-- the blocks whose type names are those that type block t is made of, in the order they are taken: an array's own block, or field blocks
unfoldable pub parts_of : List ℕ → ℕ → ℕ → List ℕ
parts_of book width t = parts_in book t (parts_kind (category_of book width t))
