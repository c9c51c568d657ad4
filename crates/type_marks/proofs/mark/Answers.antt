use Rattle.type_marks.proofs.Laws.{mark-is}
use Rattle.type_marks.proofs.mark.Goals as goal

-- src/lib.rt:110:1
pub returns : goal.returns
returns c = search mark-is
