use Rattle.ser_first_fields.proofs.Laws.{note_other, note_marked, note_new}
use Rattle.ser_first_fields.proofs.note_field.Goals as goal

-- src/lib.rt:27:9
pub returns-then-h-k : goal.returns-then-h-k
returns-then-h-k c = search note_other

-- src/lib.rt:30:9
pub returns-then-is_marked : goal.returns-then-is_marked
returns-then-is_marked c = search note_marked

-- src/lib.rt:21:1
pub returns : goal.returns
returns c = search note_new
