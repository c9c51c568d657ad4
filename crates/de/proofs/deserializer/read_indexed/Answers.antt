-- `read_indexed` meets its contract. Assumes nothing.
use borrow.Author.Rules.{rules}
use Rattle.de.proofs.deserializer.read_indexed.Goals as goal

pub read_sized-requires : goal.read_sized-requires
read_sized-requires c = (search rules, search rules, search rules)

pub read_sized-requires-2 : goal.read_sized-requires-2
read_sized-requires-2 c = (search rules, search rules, search rules)
