-- `is_known_by` meets its contract. Assumes nothing.
use Rattle.gateway_appending.proofs.Known.{known_by, new_by}
use Rattle.gateway_appending.proofs.is_known_by.Goals as goal

pub returns-in-Some : goal.returns-in-Some
returns-in-Some c = search (known_by, new_by)

pub returns-in-None : goal.returns-in-None
returns-in-None c = search (known_by, new_by)
