-- `fill_index` meets its contract. Assumes nothing.
use Rattle.type_index.proofs.Entries.{hinted_names}
use Rattle.type_index.proofs.fill_index.Goals as goal

pub returns : goal.returns
returns c = search hinted_names
