-- `type_provider::find` meets its contract. Assumes nothing.
use Rattle.type_provider.proofs.Finds.{find-here, find-end}
use Rattle.type_provider.proofs.Numbers.{found-says}
use Rattle.type_provider.proofs.find.Goals as goal

pub returns-then-is_named : goal.returns-then-is_named
returns-then-is_named c = found-says _ _ (search find-here)

pub returns : goal.returns
returns c = found-says _ _ (search find-end)
