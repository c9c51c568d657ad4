-- `follow` meets its contract. Assumes nothing.
use borrow.Author.Rules.{rules}
use mathlib.Core.Path.{refl}
use Rattle.resolvers.proofs.Chains.{chain-end, chain-base, chain-lacks, chain-again, found-typed}
use Rattle.type_provider.proofs.Numbers.{found-is}
use Rattle.resolvers.proofs.follow.Goals as goal

ruleset exits = (chain-end, chain-base, chain-lacks, found-is)

pub loop-init : goal.loop-init
loop-init c = (refl, search rules)

pub returns-then-not-is_followed : goal.returns-then-not-is_followed
returns-then-not-is_followed c = search exits

pub returns-in_default : goal.returns-in_default
returns-in_default c = search exits

pub loop-preserved : goal.loop-preserved
loop-preserved c = (search (chain-again, found-is), search (found-typed, found-is))

pub returns : goal.returns
returns c = search exits
