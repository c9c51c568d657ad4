use Rattle.ser_first_fields.proofs.Laws.{named-first, named-searched}
use Rattle.ser_first_fields.proofs.field_named_as.Goals as goal

ruleset exits = (named-first, named-searched)

-- src/lib.rt:125:13
pub returns-then-bit : goal.returns-then-bit
returns-then-bit c = search exits

-- src/lib.rt:119:1
pub returns : goal.returns
returns c = search exits
