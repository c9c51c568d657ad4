use Rattle.ser_leaf.proofs.Leaves.{text_string, text-marked, text-wide, text-none}
use Rattle.ser_leaf.proofs.text_by.Goals as goal

ruleset exits = (text_string, text-marked, text-wide, text-none)

-- src/lib.rt:279:13
pub returns-then-marked : goal.returns-then-marked
returns-then-marked c = search exits

-- src/lib.rt:281:9
pub returns-then-id-eq30 : goal.returns-then-id-eq30
returns-then-id-eq30 c = search exits

-- src/lib.rt:284:9
pub returns-then-id-eq31 : goal.returns-then-id-eq31
returns-then-id-eq31 c = search exits

-- src/lib.rt:274:1
pub returns : goal.returns
returns c = search exits
