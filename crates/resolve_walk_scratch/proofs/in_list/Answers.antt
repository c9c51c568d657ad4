-- `in_list` meets its contract. The loop keeps: what is asked is whether one of the blocks from place `b-index` on names it. Assumes nothing.
use Rattle.resolve_walk_scratch.proofs.Places.{in_here, in_again, in_none}
use Rattle.resolve_walk_scratch.proofs.in_list.Goals as goal

pub returns-then-names_it : goal.returns-then-names_it
returns-then-names_it c = search in_here

pub loop-b-preserved : goal.loop-b-preserved
loop-b-preserved c = search in_again

pub returns : goal.returns
returns c = search in_none
