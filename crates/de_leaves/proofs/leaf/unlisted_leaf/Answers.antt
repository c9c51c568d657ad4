use Rattle.de_leaves.proofs.Leaves.{unlisted-value, unlisted-size, unlisted_id}
use Rattle.de_leaves.proofs.leaf.unlisted_leaf.Goals as goal

ruleset exits = (unlisted-value, unlisted-size, unlisted_id)

pub returns-in-Value : goal.returns-in-Value
returns-in-Value c = search exits

pub returns-in-Size : goal.returns-in-Size
returns-in-Size c = search exits

pub returns-in-Unsupported : goal.returns-in-Unsupported
returns-in-Unsupported c = search exits
