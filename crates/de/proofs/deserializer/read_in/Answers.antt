use Rattle.de.proofs.Wholes.{typed-root, root-base, root-lacks, root-endless}
use Rattle.de.proofs.Exits.{given-none}
use Rattle.type_category.proofs.Numbers.{category-is}
use borrow.Author.Rules.{rules}
use Rattle.de.proofs.deserializer.read_in.Goals as goal

-- src/deserializer.rt:96:17
pub value-s-requires : goal.value-s-requires
value-s-requires c = (search rules, search typed-root, search category-is, search given-none)

-- src/deserializer.rt:69:1
pub returns-in-Base : goal.returns-in-Base
returns-in-Base c = search (root-base, category-is)

-- src/deserializer.rt:69:1
pub returns-in-NotFound : goal.returns-in-NotFound
returns-in-NotFound c = search root-lacks

-- src/deserializer.rt:69:1
pub returns-in-TooLong : goal.returns-in-TooLong
returns-in-TooLong c = search root-endless
