-- `is_followed` meets its contract. Assumes nothing.
use Rattle.resolvers.proofs.Chains.{followed_is}
use Rattle.type_category.proofs.Numbers.{category-is}
use Rattle.resolvers.proofs.is_followed.Goals as goal

pub returns : goal.returns
returns c = search (followed_is, category-is)
