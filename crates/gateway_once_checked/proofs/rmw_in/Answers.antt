use Rattle.resolve_walk.proofs.Zeros.{scratch-room}
use Rattle.gateway_once_checked.proofs.Ends.{rmw_short, rmw_long}
use borrow.Author.Rules.{rules}
use Rattle.gateway_once_checked.proofs.rmw_in.Goals as goal

ruleset exits = (rmw_short, rmw_long)

-- src/lib.rt:20:9
pub returns-then-not-scratch_fits : goal.returns-then-not-scratch_fits
returns-then-not-scratch_fits c = search exits

-- src/lib.rt:22:5
pub requires_read_modify_write_in-requires : goal.requires_read_modify_write_in-requires
requires_read_modify_write_in-requires c = (search rules, search rules, search scratch-room)

-- src/lib.rt:15:1
pub returns : goal.returns
returns c = search exits
