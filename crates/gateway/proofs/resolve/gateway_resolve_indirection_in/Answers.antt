-- `gateway_resolve_indirection_in` meets its contract. Assumes nothing.
use Rattle.gateway.proofs.Equal.{chain-given}
use Rattle.gateway.proofs.resolve.gateway_resolve_indirection_in.Goals as goal

pub returns : goal.returns
returns c = search chain-given
