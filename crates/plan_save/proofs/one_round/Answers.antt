use Rattle.plan_adds.proofs.Fetches.{ready-cut, ready-fits}
use Rattle.plan_save.proofs.Turns.{ready-book, lists-fit, half-kept, round-no, round-not-whole, round-yes, round-adds}
use borrow.Author.Rules.{rules}
use mathlib.Core.Path.{◌≡◌}
use Rattle.std.specs.Prelude.{Some, None}
use Rattle.plan_save.proofs.one_round.Goals as goal

ruleset exits = (half-kept, round-no, round-not-whole, round-yes, round-adds)

pub slice_bounds-ask-end : goal.slice_bounds-ask-end
slice_bounds-ask-end c = search ready-fits

pub slice_bounds-ask-end-2 : goal.slice_bounds-ask-end-2
slice_bounds-ask-end-2 c = search ready-cut

pub ask-asked-requires : goal.ask-asked-requires
ask-asked-requires c = (search ready-book, search rules, search rules, search rules)

pub returns-then-n-eq0 : goal.returns-then-n-eq0
returns-then-n-eq0 c =
    let q : c.in-Ok-Some.field-0 ≡ Some c.in-Ok-Some.n = rw c.in-Ok-Some.is at c.in-Ok-Some.field-0-is in
    search exits

pub add_round-requires : goal.add_round-requires
add_round-requires c =
    let q : c.in-Ok-Some.field-0 ≡ Some c.in-Ok-Some.n = rw c.in-Ok-Some.is at c.in-Ok-Some.field-0-is in
    (search rules, search half-kept, search rules, search (lists-fit, rules))

pub returns-in-Ok-None : goal.returns-in-Ok-None
returns-in-Ok-None c =
    let q : c.in-Ok-None.field-0 ≡ None = rw c.in-Ok-None.is at c.in-Ok-None.field-0-is in
    search exits

pub returns-in-Err : goal.returns-in-Err
returns-in-Err c = search exits

pub returns-else-n-eq0 : goal.returns-else-n-eq0
returns-else-n-eq0 c =
    let q : c.in-Ok-Some.field-0 ≡ Some c.in-Ok-Some.n = rw c.in-Ok-Some.is at c.in-Ok-Some.field-0-is in
    search exits
