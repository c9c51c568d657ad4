use Rattle.plan_named.proofs.Ends.{root-nowhere, root-type, root-added, root-full}
use borrow.Author.Rules.{rules}
use Rattle.plan_named.proofs.add_root.Goals as goal

ruleset exits = (root-nowhere, root-added, root-full)

pub returns-in_default : goal.returns-in_default
returns-in_default c = search exits

pub definition-requires : goal.definition-requires
definition-requires c = (search rules, search root-type)

pub returns-in-Done : goal.returns-in-Done
returns-in-Done c = search exits

pub returns-in-Refused : goal.returns-in-Refused
returns-in-Refused c = search exits
