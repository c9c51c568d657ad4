use Rattle.ser.proofs.Exits.{leaf-inside, key_near, key_far}
use borrow.Author.Rules.{rules}
use Rattle.ser.proofs.map_writer.field_of_key.Goals as goal

ruleset exits = (key_near, key_far)

-- src/map_writer.rt:49:9
pub field_named_as-requires : goal.field_named_as-requires
field_named_as-requires c = (search leaf-inside, search rules)

-- src/map_writer.rt:49:9
pub returns-then-a-lt65536 : goal.returns-then-a-lt65536
returns-then-a-lt65536 c = search exits

-- src/map_writer.rt:51:5
pub field_block-requires : goal.field_block-requires
field_block-requires c = search leaf-inside

-- src/map_writer.rt:44:1
pub returns : goal.returns
returns c = search exits
