-- How a value is read, by its type's category (document 01: deserializer.rs). Assumes nothing.
use Rattle.type_category.specs.declared.type_category.AdsTypeCategory.{AdsTypeCategory}
use Rattle.type_category.specs.declared.type_category.AdsTypeCategory.TheVariants as category
use Rattle.tape_shape.specs.declared.Shape.{Shape}
use Rattle.tape_shape.specs.declared.Shape.TheVariants as shape

-- by its fields, by its elements, or as a whole
abbrev pub shape_of : AdsTypeCategory → Shape
shape_of category.None = shape.Leaf
shape_of category.Primitive = shape.Leaf
shape_of category.Alias = shape.Leaf
shape_of category.Enum = shape.Leaf
shape_of category.Array = shape.Array
shape_of category.Struct = shape.Map
shape_of category.FunctionBlock = shape.Map
shape_of category.Program = shape.Leaf
shape_of category.Function = shape.Leaf
shape_of category.SubRange = shape.Leaf
shape_of category.String = shape.Leaf
shape_of category.Bitset = shape.Leaf
shape_of category.Pointer = shape.Leaf
shape_of category.Union = shape.Map
shape_of category.Reference = shape.Leaf
shape_of category.Interface = shape.Leaf
