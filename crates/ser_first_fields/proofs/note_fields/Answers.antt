use borrow.Author.Rules.{rules}
use Rattle.ser_first_fields.proofs.Laws.{met-none, noted-met, noted_firsts}
use Rattle.ser_first_fields.proofs.note_fields.Goals as goal

-- src/lib.rt:43:5
pub loop-i-init : goal.loop-i-init
loop-i-init c = (search rules, search rules, search met-none, search rules)

-- src/lib.rt:43:5
pub loop-i-preserved : goal.loop-i-preserved
loop-i-preserved c = (search rules, search rules, search noted-met, search noted_firsts)
