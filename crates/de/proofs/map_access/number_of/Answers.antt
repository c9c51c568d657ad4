use Rattle.resolve_field_plan.proofs.Plans.{named_cast}
use Rattle.de.proofs.FieldNumbers.{none-field, field_is}
use Rattle.de.proofs.map_access.number_of.Goals as goal

ruleset exits = (none-field, field_is)

pub returns-then-m-eq0 : goal.returns-then-m-eq0
returns-then-m-eq0 c = search exits

pub returns-then-m-eq0-2 : goal.returns-then-m-eq0-2
returns-then-m-eq0-2 c = search exits

pub returns-then-to-bytes : goal.returns-then-to-bytes
returns-then-to-bytes c = search exits

pub overflow_cast-typed : goal.overflow_cast-typed
overflow_cast-typed c = search named_cast

pub returns : goal.returns
returns c = search exits
