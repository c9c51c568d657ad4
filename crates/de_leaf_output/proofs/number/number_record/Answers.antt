use Rattle.de_leaf_output.proofs.Numbers.{none_number, number_is}
use Rattle.de_leaf_output.proofs.number.number_record.Goals as goal

pub returns-then-not-may_count : goal.returns-then-not-may_count
returns-then-not-may_count c = search number_is

pub returns : goal.returns
returns c = search none_number
