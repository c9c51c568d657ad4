use Rattle.de_leaves.proofs.Leaves.{integer_signed, integer_unsigned, integer_size, integer_id}
use Rattle.de_leaves.proofs.leaf.integer_leaf.Goals as goal

ruleset exits = (integer_signed, integer_unsigned, integer_size, integer_id)

pub returns-in-Signed : goal.returns-in-Signed
returns-in-Signed c = search exits

pub returns-in-Unsigned : goal.returns-in-Unsigned
returns-in-Unsigned c = search exits

pub returns-in-Size : goal.returns-in-Size
returns-in-Size c = search exits

pub returns-in-Unsupported : goal.returns-in-Unsupported
returns-in-Unsupported c = search exits
