-- `gateway_utf_8_decode` meets its contract. Assumes nothing.
use Rattle.gateway.proofs.Numbers.{wrote-number}
use Rattle.gateway.proofs.gateway_utf_8_decode.Goals as goal

pub returns : goal.returns
returns c = search wrote-number
