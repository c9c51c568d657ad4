use Rattle.ser_first_fields.proofs.Laws.{firsts_none}
use Rattle.ser.proofs.Exits.{leaf-inside}
use Rattle.ser.proofs.map_writer.note_long.Goals as goal

-- src/map_writer.rt:114:9
pub note_firsts-requires : goal.note_firsts-requires
note_firsts-requires c = search leaf-inside

-- src/map_writer.rt:109:1
pub returns : goal.returns
returns c = search firsts_none
