use Rattle.resolve_walk.proofs.Zeros.{scratch-room, list-room}
use Rattle.gateway_once_checked.proofs.Ends.{scratch-short, list-short, both_long}
use borrow.Author.Rules.{rules}
use Rattle.gateway_once_checked.proofs.missing_in.Goals as goal

ruleset exits = (scratch-short, list-short, both_long)

-- src/lib.rt:38:9
pub returns-then-not-scratch_fits : goal.returns-then-not-scratch_fits
returns-then-not-scratch_fits c = search exits

-- src/lib.rt:41:9
pub returns-then-not-list_fits : goal.returns-then-not-list_fits
returns-then-not-list_fits c = search exits

-- src/lib.rt:43:5
pub missing_types_in-requires : goal.missing_types_in-requires
missing_types_in-requires c = (search rules, search rules, search scratch-room, search list-room)

-- src/lib.rt:26:1
pub returns : goal.returns
returns c = search exits
