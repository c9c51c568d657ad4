-- `rmw_lacking` meets its contract. Assumes nothing.
use Rattle.resolve_read_modify_write.proofs.Givens.{lacking-index, lacking-scratch, lacking-fits}
use Rattle.resolve_read_modify_write.proofs.rmw_lacking.Goals as goal

ruleset exits = (lacking-index, lacking-scratch, lacking-fits)

pub returns-then-not-index_fits : goal.returns-then-not-index_fits
returns-then-not-index_fits c = search exits

pub returns-then-not-scratch_fits : goal.returns-then-not-scratch_fits
returns-then-not-scratch_fits c = search exits

pub returns : goal.returns
returns c = search exits
