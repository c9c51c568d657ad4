use Rattle.ser.proofs.Exits.{dimension_lacks, dimension_endless, dimension_end, dimension_other, dimension_array}
use Rattle.ser.proofs.array_writer.dimension_in.Goals as goal

ruleset exits = (dimension_lacks, dimension_endless, dimension_end, dimension_other, dimension_array)

-- src/array_writer.rt:161:25
pub returns-then-r-eq-ARRAY : goal.returns-then-r-eq-ARRAY
returns-then-r-eq-ARRAY c = search exits

-- src/array_writer.rt:131:1
pub returns-else-r-eq-ARRAY : goal.returns-else-r-eq-ARRAY
returns-else-r-eq-ARRAY c = search exits

-- src/array_writer.rt:131:1
pub returns-in-None : goal.returns-in-None
returns-in-None c = search exits

-- src/array_writer.rt:131:1
pub returns-in-NotFound : goal.returns-in-NotFound
returns-in-NotFound c = search exits

-- src/array_writer.rt:131:1
pub returns-in-TooLong : goal.returns-in-TooLong
returns-in-TooLong c = search exits
