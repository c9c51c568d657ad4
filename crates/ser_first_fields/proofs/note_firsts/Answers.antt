use Rattle.ser_first_fields.proofs.Laws.{firsts_none, enough-bits}
use borrow.Author.Rules.{rules}
use Rattle.ser_first_fields.proofs.note_firsts.Goals as goal

-- src/lib.rt:91:9
pub returns-then-firsts-n : goal.returns-then-firsts-n
returns-then-firsts-n c = search firsts_none

-- src/lib.rt:94:9
pub note_class-requires : goal.note_class-requires
note_class-requires c = (search rules, search enough-bits, search rules, search rules, search rules, search firsts_none)

-- src/lib.rt:97:5
pub note_many-requires : goal.note_many-requires
note_many-requires c = (search rules, search enough-bits, search firsts_none)
