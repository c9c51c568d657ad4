-- `missing_at` meets its contract. Assumes nothing.
use borrow.Author.Rules.{rules}
use Rattle.resolve_walk.proofs.Zeros.{scratch-room, list-room}
use Rattle.resolve_missing_types.proofs.Ends.{missing_index, missing_scratch, missing_list_lem, missing_fits_lem}
use Rattle.resolve_missing_types.proofs.missing_at.Goals as goal

ruleset exits = (missing_index, missing_scratch, missing_list_lem, missing_fits_lem)

pub returns-then-not-index_fits : goal.returns-then-not-index_fits
returns-then-not-index_fits c = search exits

pub returns-then-not-scratch_fits : goal.returns-then-not-scratch_fits
returns-then-not-scratch_fits c = search exits

pub returns-then-not-list_fits : goal.returns-then-not-list_fits
returns-then-not-list_fits c = search exits

pub missing_types_in-requires : goal.missing_types_in-requires
missing_types_in-requires c = (search rules, search rules, search scratch-room, search list-room)

pub returns : goal.returns
returns c = search exits
