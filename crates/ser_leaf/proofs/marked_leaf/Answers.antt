use Rattle.std.proofs.Common.{rules}
use Rattle.ser_leaf.proofs.marked_leaf.Goals as goal

pub returns : goal.returns
returns c = c.padded_leaf.ensures c.args.text.now (λ lent p now h. search rules)
