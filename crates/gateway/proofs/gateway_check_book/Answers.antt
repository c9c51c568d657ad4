-- `gateway_check_book` meets its contract. Assumes nothing.
use Rattle.gateway.proofs.Equal.{check-given}
use Rattle.gateway.proofs.gateway_check_book.Goals as goal

pub returns : goal.returns
returns c = search check-given
