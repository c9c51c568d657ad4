-- `gateway_is_type` meets its contract. Assumes nothing.
use Rattle.gateway.proofs.book.gateway_is_type.Goals as goal

pub returns : goal.returns
returns c = cc
