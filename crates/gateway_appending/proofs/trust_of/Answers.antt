-- `trust_of` meets its contract. Assumes nothing.
use Rattle.gateway_appending.proofs.Known.{said-held, said-other}
use Rattle.gateway_appending.proofs.trust_of.Goals as goal

pub returns-then-held-eq1 : goal.returns-then-held-eq1
returns-then-held-eq1 c = search (said-held, said-other)

pub returns : goal.returns
returns c = search (said-held, said-other)
