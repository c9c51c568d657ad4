-- `is_part` meets its contract. Assumes nothing.
use Rattle.resolve_walk_scratch.proofs.Places.{part_field, part-dimensions}
use Rattle.resolve_walk_scratch.proofs.is_part.Goals as goal

pub returns-then-not-is_type : goal.returns-then-not-is_type
returns-then-not-is_type c = search part_field

pub returns-else-not-is_type : goal.returns-else-not-is_type
returns-else-not-is_type c = search part-dimensions
