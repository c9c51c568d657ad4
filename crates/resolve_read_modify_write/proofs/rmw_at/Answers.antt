-- `rmw_at` meets its contract. Assumes nothing.
use borrow.Author.Rules.{rules}
use Rattle.resolve_walk.proofs.Zeros.{scratch-room}
use Rattle.resolve_read_modify_write.proofs.Ends.{rmw_index, rmw_scratch, rmw_fits_lem}
use Rattle.resolve_read_modify_write.proofs.rmw_at.Goals as goal

ruleset exits = (rmw_index, rmw_scratch, rmw_fits_lem)

pub returns-then-not-index_fits : goal.returns-then-not-index_fits
returns-then-not-index_fits c = search exits

pub returns-then-not-scratch_fits : goal.returns-then-not-scratch_fits
returns-then-not-scratch_fits c = search exits

pub requires_read_modify_write_in-requires : goal.requires_read_modify_write_in-requires
requires_read_modify_write_in-requires c = (search rules, search rules, search scratch-room)

pub returns : goal.returns
returns c = search exits
