use Rattle.validators.proofs.Answers.{integer_wide, integer_size, integer_by_id}
use Rattle.type_category.proofs.Numbers.{category-is}
use Rattle.validators.proofs.validate_integer_type_id.Goals as goal

ruleset exits = (integer_wide, integer_size, integer_by_id, category-is)

pub returns-then-width-size : goal.returns-then-width-size
returns-then-width-size c = search exits

pub returns-then-is_in : goal.returns-then-is_in
returns-then-is_in c = search exits

pub returns : goal.returns
returns c = search exits
