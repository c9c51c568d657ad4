use Rattle.plan_adds.proofs.Lists.{adds-start, adds-ready, adds-end, adds_again, adds-lacks, adds-full}
use borrow.Author.Rules.{rules}
use mathlib.Core.Path.{◌≡◌}
use Rattle.plan_adds.specs.declared.Unfetched.TheVariants as unfetched
use Rattle.plan_adds.proofs.add_listed.Goals as goal

ruleset exits = (adds-end, adds-lacks, adds-full)

pub loop-b-init : goal.loop-b-init
loop-b-init c = (search adds-start, search rules, search rules)

pub fetch-fetched-requires : goal.fetch-fetched-requires
fetch-fetched-requires c = (search rules, search rules, search adds-ready)

pub returns-in-Err-NotFound : goal.returns-in-Err-NotFound
returns-in-Err-NotFound c =
    let q : c.in-Err-NotFound.field-0 ≡ unfetched.NotFound = rw c.in-Err-NotFound.is at c.in-Err-NotFound.field-0-is in
    search exits

pub returns-in-Err-Full : goal.returns-in-Err-Full
returns-in-Err-Full c =
    let q : c.in-Err-Full.field-0 ≡ unfetched.Full = rw c.in-Err-Full.is at c.in-Err-Full.field-0-is in
    search exits

pub loop-b-preserved : goal.loop-b-preserved
loop-b-preserved c = (search adds_again, search rules, search rules)

pub returns : goal.returns
returns c = search exits
