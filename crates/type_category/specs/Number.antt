-- The number of a category, the numbers of an answer that is one, and the category of a number. Assumes nothing.
use Rattle.std.specs.Prelude.{cond, List, [], ◌∷◌, ℕ, eqb}
use Rattle.type_category.specs.declared.type_category.AdsTypeCategory.{AdsTypeCategory}
use Rattle.type_category.specs.declared.type_category.AdsTypeCategory.TheVariants.{None, Primitive, Alias, Enum, Array, Struct, FunctionBlock, Program, Function, SubRange, String, Bitset, Pointer, Union, Reference, Interface}

-- a category's place in the Rust's declaration, from 0 on
abbrev pub category_number : AdsTypeCategory → ℕ
category_number None = 0
category_number Primitive = 1
category_number Alias = 2
category_number Enum = 3
category_number Array = 4
category_number Struct = 5
category_number FunctionBlock = 6
category_number Program = 7
category_number Function = 8
category_number SubRange = 9
category_number String = 10
category_number Bitset = 11
category_number Pointer = 12
category_number Union = 13
category_number Reference = 14
category_number Interface = 15

-- document 01's number and value of an answer: nothing is refused, and the category
unfoldable pub category_numbers : AdsTypeCategory → List ℕ
category_numbers c = 0 ∷ category_number c ∷ []

-- the category of a number; past the last one it is the last
unfoldable pub category_at : ℕ → AdsTypeCategory
category_at n =
    cond (eqb n 0) None
    (cond (eqb n 1) Primitive
    (cond (eqb n 2) Alias
    (cond (eqb n 3) Enum
    (cond (eqb n 4) Array
    (cond (eqb n 5) Struct
    (cond (eqb n 6) FunctionBlock
    (cond (eqb n 7) Program
    (cond (eqb n 8) Function
    (cond (eqb n 9) SubRange
    (cond (eqb n 10) String
    (cond (eqb n 11) Bitset
    (cond (eqb n 12) Pointer
    (cond (eqb n 13) Union
    (cond (eqb n 14) Reference Interface))))))))))))))
