use Rattle.type_block_form.proofs.Sums.{sum_head, sum-short}
use Rattle.type_block_form.proofs.NameSums.{name-long, name-wrong, type-name-long, type-name-wrong, name-fits, names-fit, names-told}
use borrow.Author.Rules.{rules}
use Rattle.type_block_form.proofs.names_form.Goals as goal

-- src/lib.rt:121:9
pub returns-then-n-gt200 : goal.returns-then-n-gt200
returns-then-n-gt200 c = search name-long

-- src/lib.rt:124:9
pub returns-in_default : goal.returns-in_default
returns-in_default c = search name-wrong

-- src/lib.rt:128:9
pub returns-then-t-gt200 : goal.returns-then-t-gt200
returns-then-t-gt200 c = search type-name-long

-- src/lib.rt:131:9
pub returns-in_default-name_sum : goal.returns-in_default-name_sum
returns-in_default-name_sum c = search type-name-wrong

-- src/lib.rt:133:46
pub slice_bounds-sum-end : goal.slice_bounds-sum-end
slice_bounds-sum-end c = search (sum_head, rules)

-- src/lib.rt:133:42
pub sum-requires : goal.sum-requires
sum-requires c = search (sum-short, rules)

-- src/lib.rt:133:42
pub overflow_add-result : goal.overflow_add-result
overflow_add-result c = record { fits = search (name-fits, rules) }

-- src/lib.rt:133:42
pub overflow_add-result-2 : goal.overflow_add-result-2
overflow_add-result-2 c = record { fits = search (names-fit, rules) }

-- src/lib.rt:115:1
pub returns : goal.returns
returns c = search names-told
