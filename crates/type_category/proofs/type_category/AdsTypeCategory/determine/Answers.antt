use Rattle.type_category.proofs.Steps.{simple_is}
use Rattle.type_category.proofs.Numbers.{category-says}
use Rattle.type_category.proofs.type_category.AdsTypeCategory.determine.Goals as goal

pub returns : goal.returns
returns c = category-says _ _ (search simple_is)
