-- A resolved type as a count of time, by its name and its category (document 02, change request 7). Assumes nothing.
use Rattle.std.specs.Prelude.{Bool, true, false, cond, List, ℕ}
use Rattle.type_book.specs.Book.{name_of}
use Rattle.type_category.specs.declared.type_category.AdsTypeCategory.{AdsTypeCategory}
use Rattle.type_category.specs.declared.type_category.AdsTypeCategory.TheVariants as category
use Rattle.time_types.specs.declared.TimeType.{TimeType}
use Rattle.time_types.specs.declared.TimeType.TheVariants as time
use Rattle.time_types.specs.Types.{time_type_of, time_width}

-- the name counts, unless the category is pointer, reference, array, enum, subrange, alias, struct, union or function block
abbrev pub name_counts : AdsTypeCategory → Bool
name_counts category.None = true
name_counts category.Primitive = true
name_counts category.Alias = false
name_counts category.Enum = false
name_counts category.Array = false
name_counts category.Struct = false
name_counts category.FunctionBlock = false
name_counts category.Program = true
name_counts category.Function = true
name_counts category.SubRange = false
name_counts category.String = true
name_counts category.Bitset = true
name_counts category.Pointer = false
name_counts category.Union = false
name_counts category.Reference = false
name_counts category.Interface = true

-- what resolved type t counts, being of that category
unfoldable pub time_of : List ℕ → ℕ → AdsTypeCategory → TimeType
time_of book t c = cond (name_counts c) (time_type_of (name_of book t)) time.NoTime

-- the bytes of its count; 0 where it is no count of time
unfoldable pub count_width : List ℕ → ℕ → AdsTypeCategory → ℕ
count_width book t c = time_width (time_of book t c)
