-- `found` meets its contract. Assumes nothing.
use Rattle.gateway_codes.proofs.Blocks.{found_at, found_nothing}
use Rattle.gateway_codes.proofs.found.Goals as goal

ruleset exits = (found_at, found_nothing)

pub returns-in-Some : goal.returns-in-Some
returns-in-Some c = search exits

pub returns-in-None : goal.returns-in-None
returns-in-None c = search exits
