use Rattle.type_cache.proofs.Appends.{known_at, known-not}
use Rattle.type_provider.proofs.Numbers.{found-is}
use Rattle.type_cache.proofs.is_known.Goals as goal

pub returns-in-Some : goal.returns-in-Some
returns-in-Some c = search (known_at, found-is)

pub returns-in_default : goal.returns-in_default
returns-in_default c = search (known-not, found-is)
