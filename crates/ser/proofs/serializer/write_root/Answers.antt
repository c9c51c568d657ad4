use Rattle.ser.proofs.Wholes.{typed-root, root-base, root-lacks, root-endless}
use borrow.Author.Rules.{rules}
use Rattle.ser.proofs.serializer.write_root.Goals as goal

ruleset exits = (root-base, root-lacks, root-endless)

pub write_type-requires : goal.write_type-requires
write_type-requires c = (search rules, search typed-root, search rules)

pub returns-in-Base : goal.returns-in-Base
returns-in-Base c = search exits

pub returns-in-NotFound : goal.returns-in-NotFound
returns-in-NotFound c = search exits

pub returns-in-TooLong : goal.returns-in-TooLong
returns-in-TooLong c = search exits
