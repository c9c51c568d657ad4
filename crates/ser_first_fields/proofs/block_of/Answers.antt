use Rattle.ser_first_fields.proofs.Laws.{block_at, block_none}
use Rattle.ser_first_fields.proofs.block_of.Goals as goal

ruleset exits = (block_at, block_none)

-- src/lib.rt:101:1
pub returns-in-Some : goal.returns-in-Some
returns-in-Some c = search exits

-- src/lib.rt:101:1
pub returns-in-None : goal.returns-in-None
returns-in-None c = search exits
