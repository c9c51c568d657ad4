-- `find_in` meets its contract. Assumes nothing.
use Rattle.type_index.proofs.Trusts.{by_probe, by_trust}
use Rattle.type_index.proofs.find_in.Goals as goal

pub returns-in_default : goal.returns-in_default
returns-in_default c = search by_trust

pub returns : goal.returns
returns c = search by_probe
