use Rattle.std.proofs.lemmas.List.{take_min}
use Rattle.de_leaf_output.proofs.first.Goals as goal

pub returns : goal.returns
returns c = rw c.min.ensures (take_min c.args.n c.args.bytes.now)
