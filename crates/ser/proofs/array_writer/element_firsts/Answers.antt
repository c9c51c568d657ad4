use Rattle.ser_first_fields.proofs.Laws.{firsts_none}
use Rattle.ser.proofs.Exits.{leaf-inside}
use Rattle.ser.proofs.array_writer.element_firsts.Goals as goal

-- src/array_writer.rt:140:9
pub note_firsts-requires : goal.note_firsts-requires
note_firsts-requires c = search leaf-inside

-- src/array_writer.rt:135:1
pub returns : goal.returns
returns c = search firsts_none
