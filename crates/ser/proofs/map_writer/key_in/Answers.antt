use Rattle.ser.proofs.Exits.{key-end, key-other, key-unknown, key-known, key-after, key-past, key-entry}
use borrow.Author.Rules.{rules}
use Rattle.ser.proofs.map_writer.key_in.Goals as goal

ruleset exits = (key-end, key-other, key-unknown, key-known)

-- src/map_writer.rt:87:21
pub returns-then-f-eq0 : goal.returns-then-f-eq0
returns-then-f-eq0 c = search exits

-- src/map_writer.rt:89:56
pub overflow_sub-f : goal.overflow_sub-f
overflow_sub-f c = search key-after

-- src/map_writer.rt:89:56
pub overflow_sub-f-then-r-eq-KEY : goal.overflow_sub-f-then-r-eq-KEY
overflow_sub-f-then-r-eq-KEY c = search key-past

-- src/map_writer.rt:90:17
pub field_in-requires : goal.field_in-requires
field_in-requires c = (search rules, search key-entry)

-- src/map_writer.rt:90:17
pub returns-then-r-eq-KEY : goal.returns-then-r-eq-KEY
returns-then-r-eq-KEY c = search exits

-- src/map_writer.rt:68:1
pub returns-else-r-eq-KEY : goal.returns-else-r-eq-KEY
returns-else-r-eq-KEY c = search exits

-- src/map_writer.rt:68:1
pub returns-in-None : goal.returns-in-None
returns-in-None c = search exits
