-- `append_in` meets its contract. Assumes nothing.
use Rattle.gateway_appending.proofs.Known.{trusted-said, appended-said}
use borrow.Author.Rules.{rules}
use Rattle.gateway_appending.proofs.append_in.Goals as goal

pub append_with-requires : goal.append_with-requires
append_with-requires c = (search rules, search trusted-said)

pub returns : goal.returns
returns c = search appended-said
