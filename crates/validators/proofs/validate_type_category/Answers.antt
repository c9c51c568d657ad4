use Rattle.validators.proofs.Answers.{category-valid, category_mismatch}
use Rattle.type_category.proofs.Numbers.{category-is}
use Rattle.validators.proofs.validate_type_category.Goals as goal

ruleset exits = (category-valid, category_mismatch, category-is)

pub returns-then-is_in : goal.returns-then-is_in
returns-then-is_in c = search exits

pub returns : goal.returns
returns c = search exits
