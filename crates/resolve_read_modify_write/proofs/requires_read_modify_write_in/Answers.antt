-- `requires_read_modify_write_in` meets its contract. Assumes nothing.
use Rattle.resolve_walk.proofs.Zeros.{zeros, zeros-room}
use Rattle.resolve_read_modify_write.proofs.Ends.{rmw_done}
use borrow.Author.Rules.{rules}
use Rattle.resolve_read_modify_write.proofs.requires_read_modify_write_in.Goals as goal

pub rmw_walk-answer-requires : goal.rmw_walk-answer-requires
rmw_walk-answer-requires c = (search rules, search rules, search zeros-room, search zeros)

pub returns : goal.returns
returns c = search rmw_done
