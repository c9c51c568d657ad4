-- `missing_types_in` meets its contract. Assumes nothing.
use Rattle.resolve_walk.proofs.Zeros.{zeros, zeros-room}
use Rattle.resolve_missing_types.proofs.Ends.{missing_done}
use borrow.Author.Rules.{rules}
use Rattle.resolve_missing_types.proofs.missing_types_in.Goals as goal

pub missing_walk-answer-requires : goal.missing_walk-answer-requires
missing_walk-answer-requires c = (search rules, search rules, search zeros-room, search rules, search zeros)

pub returns : goal.returns
returns c = search missing_done
