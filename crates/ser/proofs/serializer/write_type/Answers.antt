use Rattle.type_category.proofs.Numbers.{category-is}
use Rattle.ser.proofs.Exits.{given-none, firsts_empty}
use Rattle.ser.proofs.Wholes.{type-done}
use borrow.Author.Rules.{rules}
use Rattle.ser.proofs.serializer.write_type.Goals as goal

-- src/serializer.rt:175:9
pub value-w-requires : goal.value-w-requires
value-w-requires c = (search rules, search rules, search category-is, search given-none, search firsts_empty)

-- src/serializer.rt:160:1
pub returns : goal.returns
returns c = search type-done
