use Rattle.de.proofs.Exits.{part-lacks, part-endless, part-over, part-value}
use Rattle.de.proofs.map_access.part_of.Goals as goal

ruleset exits = (part-lacks, part-endless, part-over, part-value)

-- src/map_access.rt:101:17
pub returns-then-to-bytes : goal.returns-then-to-bytes
returns-then-to-bytes c = search exits

-- src/map_access.rt:91:1
pub returns-else-to-bytes : goal.returns-else-to-bytes
returns-else-to-bytes c = search exits

-- src/map_access.rt:91:1
pub returns-in-NotFound : goal.returns-in-NotFound
returns-in-NotFound c = search exits

-- src/map_access.rt:91:1
pub returns-in-TooLong : goal.returns-in-TooLong
returns-in-TooLong c = search exits
