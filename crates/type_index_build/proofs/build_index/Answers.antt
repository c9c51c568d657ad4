-- `build_index` meets its contract. Assumes nothing.
use Rattle.type_index_build.proofs.Ends.{build_refused, build_cut, build_done}
use Rattle.type_index_build.proofs.build_index.Goals as goal

pub returns-then-refusal-ne0 : goal.returns-then-refusal-ne0
returns-then-refusal-ne0 c = search (build_refused, build_done)

pub slice_bounds-build_in-end : goal.slice_bounds-build_in-end
slice_bounds-build_in-end c = search build_cut

pub returns : goal.returns
returns c = search build_done
