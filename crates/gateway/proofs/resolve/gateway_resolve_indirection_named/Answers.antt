-- `gateway_resolve_indirection_named` meets its contract. Assumes nothing.
use Rattle.gateway.proofs.Equal.{resolution-given}
use Rattle.gateway.proofs.resolve.gateway_resolve_indirection_named.Goals as goal

pub returns : goal.returns
returns c = search resolution-given
