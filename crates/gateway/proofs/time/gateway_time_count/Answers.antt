use Rattle.gateway.proofs.Equal.{count-given}
use Rattle.gateway.proofs.time.gateway_time_count.Goals as goal

pub returns : goal.returns
returns c = search count-given
