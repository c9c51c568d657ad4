use Rattle.type_marks.proofs.Laws.{set_bit_is}
use Rattle.type_marks.proofs.set_bit.Goals as goal

-- src/lib.rt:56:1
pub returns : goal.returns
returns c = search set_bit_is
