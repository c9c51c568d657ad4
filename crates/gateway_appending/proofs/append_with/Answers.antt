-- `append_with` meets its contract. Assumes nothing.
use Rattle.gateway_appending.proofs.Appending.{once_refused, once_small, once_fits, once_longer, once_below, once_entered, once_loose}
use Rattle.type_cache.proofs.Appends.{append_fits}
use borrow.Author.Rules.{rules}
use Rattle.gateway_appending.proofs.append_with.Goals as goal

pub returns-then-refusal-ne0 : goal.returns-then-refusal-ne0
returns-then-refusal-ne0 c = search once_refused

pub copy-longer-requires : goal.copy-longer-requires
copy-longer-requires c = search append_fits

pub slice_bounds-goes_on-end : goal.slice_bounds-goes_on-end
slice_bounds-goes_on-end c = search once_fits

pub slice_bounds-goes_on-end-2 : goal.slice_bounds-goes_on-end-2
slice_bounds-goes_on-end-2 c = search once_longer

pub overflow_cast-len : goal.overflow_cast-len
overflow_cast-len c = search (rules, once_small)

pub goes_on-requires : goal.goes_on-requires
goes_on-requires c = search once_below

pub returns-then-goes_on : goal.returns-then-goes_on
returns-then-goes_on c = search once_entered

pub returns : goal.returns
returns c = search once_loose
