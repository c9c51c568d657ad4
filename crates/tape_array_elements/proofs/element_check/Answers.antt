use Rattle.tape_array_elements.proofs.Checks.{check-map, check-other, check-not-last}
use Rattle.tape_array_elements.proofs.element_check.Goals as goal

ruleset exits = (check-map, check-other, check-not-last)

pub returns-in-Map : goal.returns-in-Map
returns-in-Map c = search exits

pub returns-in_default : goal.returns-in_default
returns-in_default c = search exits

pub returns : goal.returns
returns c = search exits
