use Rattle.plan_type_adds.proofs.Knowing.{marked_in_lem, marked-past}
use Rattle.plan_type_adds.proofs.is_marked.Goals as goal

-- src/lib.rt:33:9
pub returns-then-i-lt-MARKS : goal.returns-then-i-lt-MARKS
returns-then-i-lt-MARKS c = search marked_in_lem

-- src/lib.rt:27:1
pub returns : goal.returns
returns c = search marked-past
