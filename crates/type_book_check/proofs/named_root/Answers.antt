-- `named_root` meets its contract. Assumes nothing.
use Rattle.type_book_check.proofs.Givens.{named_unformed, named-found, named-lacks}
use Rattle.type_provider.proofs.Numbers.{found-is}
use Rattle.type_book_check.proofs.named_root.Goals as goal

ruleset exits = (named_unformed, named-found, named-lacks, found-is)

pub returns-then-not-is_root_name : goal.returns-then-not-is_root_name
returns-then-not-is_root_name c = search exits

pub returns-in-Some : goal.returns-in-Some
returns-in-Some c = search exits

pub returns-in-None : goal.returns-in-None
returns-in-None c = search exits
