-- `refusal_in` meets its contract. Assumes nothing.
use Rattle.gateway_appending.proofs.Appending.{once_cut, once_addition, once_known, once_none, once_room}
use Rattle.gateway_appending.proofs.refusal_in.Goals as goal

pub returns-then-of_addition-ne0 : goal.returns-then-of_addition-ne0
returns-then-of_addition-ne0 c = search once_addition

pub slice_bounds-is_known_by-end : goal.slice_bounds-is_known_by-end
slice_bounds-is_known_by-end c = search once_cut

pub returns-then-is_known_by : goal.returns-then-is_known_by
returns-then-is_known_by c = search once_known

pub returns-then-has_room : goal.returns-then-has_room
returns-then-has_room c = search once_none

pub returns : goal.returns
returns c = search once_room
