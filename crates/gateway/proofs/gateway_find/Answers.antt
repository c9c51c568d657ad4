-- `gateway_find` meets its contract. Assumes nothing.
use Rattle.gateway.proofs.Numbers.{find-number}
use Rattle.gateway.proofs.gateway_find.Goals as goal

pub returns : goal.returns
returns c = search find-number
