use Rattle.type_marks.proofs.Laws.{slot_in_is}
use Rattle.type_marks.proofs.slot_in.Goals as goal

pub returns : goal.returns
returns c = search slot_in_is
