-- Laws of a category and its numbers. Assumes nothing.
use mathlib.Core.Path.{◌≡◌, refl, sym, ap, ◌∙◌}
use Prim.Native.Nat.{◌<◌}
use lib.Dec.{lit<}
use Rattle.type_category.specs.declared.type_category.AdsTypeCategory.{AdsTypeCategory}
use Rattle.type_category.specs.declared.type_category.AdsTypeCategory.TheVariants.{None, Primitive, Alias, Enum, Array, Struct, FunctionBlock, Program, Function, SubRange, String, Bitset, Pointer, Union, Reference, Interface}
use Rattle.type_category.specs.Number.{category_number, category_numbers, category_at}

pub number_small : (c : AdsTypeCategory) → category_number c < 16
number_small None = lit< tt
number_small Primitive = lit< tt
number_small Alias = lit< tt
number_small Enum = lit< tt
number_small Array = lit< tt
number_small Struct = lit< tt
number_small FunctionBlock = lit< tt
number_small Program = lit< tt
number_small Function = lit< tt
number_small SubRange = lit< tt
number_small String = lit< tt
number_small Bitset = lit< tt
number_small Pointer = lit< tt
number_small Union = lit< tt
number_small Reference = lit< tt
number_small Interface = lit< tt

-- a category's number gives that category
pub number-back : (c : AdsTypeCategory) → category_at (category_number c) ≡ c
unfolding category_at
number-back None = refl
number-back Primitive = refl
number-back Alias = refl
number-back Enum = refl
number-back Array = refl
number-back Struct = refl
number-back FunctionBlock = refl
number-back Program = refl
number-back Function = refl
number-back SubRange = refl
number-back String = refl
number-back Bitset = refl
number-back Pointer = refl
number-back Union = refl
number-back Reference = refl
number-back Interface = refl

-- answers of the same numbers are the same
pub category-is : (r a : AdsTypeCategory) → category_numbers r ≡ category_numbers a → r ≡ a
unfolding category_numbers
category-is r a e = let q : category_number r ≡ category_number a = cc in sym (number-back r) ∙ ap category_at q ∙ number-back a

-- the same answer has the same numbers
pub category-says : (r a : AdsTypeCategory) → r ≡ a → category_numbers r ≡ category_numbers a
category-says r a e = ap category_numbers e
