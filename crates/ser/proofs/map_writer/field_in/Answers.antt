use Rattle.ser.proofs.Exits.{field_found_lem, field-lacks, field-endless}
use Rattle.ser.proofs.map_writer.field_in.Goals as goal

ruleset exits = (field_found_lem, field-lacks, field-endless)

-- src/map_writer.rt:51:1
pub returns-in-Field : goal.returns-in-Field
returns-in-Field c = search exits

-- src/map_writer.rt:51:1
pub returns-in-NotFound : goal.returns-in-NotFound
returns-in-NotFound c = search exits

-- src/map_writer.rt:51:1
pub returns-in-TooLong : goal.returns-in-TooLong
returns-in-TooLong c = search exits
