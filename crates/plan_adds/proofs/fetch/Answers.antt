use Rattle.plan_adds.proofs.Fetches.{ready-cut, ready-fits, fetch_lacks, fetch_type, fetch_done, fetch_full, fetch_known}
use borrow.Author.Rules.{rules}
use Rattle.plan_adds.proofs.fetch.Goals as goal

ruleset exits = (fetch_lacks, fetch_done, fetch_full, fetch_known)

-- src/lib.rt:73:29
pub slice_bounds-find_theirs-end : goal.slice_bounds-find_theirs-end
slice_bounds-find_theirs-end c = search ready-fits

-- src/lib.rt:73:29
pub slice_bounds-find_theirs-end-2 : goal.slice_bounds-find_theirs-end-2
slice_bounds-find_theirs-end-2 c = search ready-cut

-- src/lib.rt:75:9
pub returns-in_default : goal.returns-in_default
returns-in_default c = search exits

-- src/lib.rt:77:9
pub append_in-answer-requires : goal.append_in-answer-requires
append_in-answer-requires c = (search rules, search rules, search fetch_type, search rules)

-- src/lib.rt:82:17
pub returns-then-k-eq15 : goal.returns-then-k-eq15
returns-then-k-eq15 c = search exits

-- src/lib.rt:62:1
pub returns-in-Done : goal.returns-in-Done
returns-in-Done c = search exits

-- src/lib.rt:62:1
pub returns-else-k-eq15 : goal.returns-else-k-eq15
returns-else-k-eq15 c = search exits
