-- `named_by` meets its contract. Assumes nothing.
use Rattle.resolvers.proofs.Chains.{found-valid}
use Rattle.resolvers.proofs.named_by.Goals as goal

pub returns : goal.returns
returns c = search found-valid
