-- `gateway_windows_1252_encode` meets its contract. Assumes nothing.
use Rattle.gateway.proofs.Numbers.{wrote-number}
use Rattle.gateway.proofs.gateway_windows_1252_encode.Goals as goal

pub returns : goal.returns
returns c = search wrote-number
