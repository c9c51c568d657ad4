use Rattle.gateway.proofs.Equal.{parts-given}
use Rattle.gateway.proofs.time.gateway_time_parts.Goals as goal

pub returns : goal.returns
returns c = search parts-given
