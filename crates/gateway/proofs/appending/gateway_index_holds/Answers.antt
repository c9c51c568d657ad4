-- `gateway_index_holds` meets its contract. Assumes nothing.
use Rattle.gateway.proofs.appending.gateway_index_holds.Goals as goal

pub returns : goal.returns
returns c = cc
