-- `type_of` meets its contract. Assumes nothing.
use Rattle.type_index.proofs.Trusts.{of_hint, of_name}
use Rattle.type_index.proofs.type_of.Goals as goal

pub returns-in_default : goal.returns-in_default
returns-in_default c = search of_name

pub returns : goal.returns
returns c = search of_hint
