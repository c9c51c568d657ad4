-- `find_by` meets its contract. Assumes nothing.
use Rattle.type_index.proofs.Trusts.{unknown-trusted}
use Rattle.type_index.proofs.find_by.Goals as goal

pub find_in-requires : goal.find_in-requires
find_in-requires c = search unknown-trusted
