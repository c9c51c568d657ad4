use Rattle.plan_type_adds.proofs.Knowing.{mark-other, mark-lacks, mark-below, mark-at}
use Rattle.plan_type_adds.proofs.mark_block.Goals as goal

pub returns-then-not-is_type : goal.returns-then-not-is_type
returns-then-not-is_type c = search mark-other

pub returns-in_default : goal.returns-in_default
returns-in_default c = search mark-lacks

pub bounds-known-n : goal.bounds-known-n
bounds-known-n c = search mark-below

pub returns : goal.returns
returns c = search mark-at
