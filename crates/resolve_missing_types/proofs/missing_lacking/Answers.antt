-- `missing_lacking` meets its contract. Assumes nothing.
use Rattle.resolve_missing_types.proofs.Givens.{lacking-room, lacking-index, lacking-scratch, lacking-list, lacking-fits}
use Rattle.resolve_missing_types.proofs.missing_lacking.Goals as goal

ruleset exits = (lacking-index, lacking-scratch, lacking-list, lacking-fits)

pub returns-then-not-index_fits : goal.returns-then-not-index_fits
returns-then-not-index_fits c = search exits

pub returns-then-not-scratch_fits : goal.returns-then-not-scratch_fits
returns-then-not-scratch_fits c = search exits

pub returns-then-not-list_fits : goal.returns-then-not-list_fits
returns-then-not-list_fits c = search exits

pub list_block-n-requires : goal.list_block-n-requires
list_block-n-requires c = search lacking-room

pub returns : goal.returns
returns c = search exits
