-- `gateway_utf_8_well_formed` meets its contract. Assumes nothing.
use Rattle.gateway.proofs.gateway_utf_8_well_formed.Goals as goal

pub returns : goal.returns
returns c = cc
