-- `gateway_resolve_alias` meets its contract. Assumes nothing.
use Rattle.gateway.proofs.Equal.{resolution-given}
use Rattle.gateway.proofs.resolve.gateway_resolve_alias.Goals as goal

pub returns : goal.returns
returns c = search resolution-given
