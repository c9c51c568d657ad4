-- `hint` meets its contract. Assumes nothing.
use Rattle.type_index.proofs.Probes.{hint_fits}
use Rattle.type_index.proofs.hint.Goals as goal

pub overflow_add-result : goal.overflow_add-result
overflow_add-result c = search hint_fits
