-- `gateway_determine` meets its contract. Assumes nothing.
use Rattle.gateway.proofs.Equal.{category-given}
use Rattle.gateway.proofs.book.gateway_determine.Goals as goal

pub returns : goal.returns
returns c = search category-given
