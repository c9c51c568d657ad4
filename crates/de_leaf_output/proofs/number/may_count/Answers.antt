use Rattle.de_leaf_output.proofs.Numbers.{count-short, count-other, count_t, count-d, count_l}
use Rattle.de_leaf_output.proofs.number.may_count.Goals as goal

pub returns-then-name-lt2 : goal.returns-then-name-lt2
returns-then-name-lt2 c = search count-short

pub returns-else-name-eq73 : goal.returns-else-name-eq73
returns-else-name-eq73 c = search count_t

pub returns-else-name-eq65 : goal.returns-else-name-eq65
returns-else-name-eq65 c = search count-d

pub returns-else-name-eq68 : goal.returns-else-name-eq68
returns-else-name-eq68 c = search count_l

pub returns-in_default : goal.returns-in_default
returns-in_default c = search count-other
