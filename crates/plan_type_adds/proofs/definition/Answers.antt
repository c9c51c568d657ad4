use Rattle.plan_type_adds.proofs.Appending.{definition_ends, definition_is}
use Rattle.plan_type_adds.proofs.definition.Goals as goal

-- src/lib.rt:75:5
pub slice_bounds-result-end : goal.slice_bounds-result-end
slice_bounds-result-end c = search definition_ends

-- src/lib.rt:68:1
pub returns : goal.returns
returns c = search definition_is
