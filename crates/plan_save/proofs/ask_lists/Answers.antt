use Rattle.plan_save.proofs.Asks.{ask-some, ask-names, ask-chain, ask-never}
use Rattle.plan_save.proofs.ask_lists.Goals as goal

ruleset exits = (ask-some, ask-names, ask-chain, ask-never)

pub returns-then-whole : goal.returns-then-whole
returns-then-whole c = search exits

pub returns-then-count-eq4097 : goal.returns-then-count-eq4097
returns-then-count-eq4097 c = search exits

pub returns-else-count-eq4097 : goal.returns-else-count-eq4097
returns-else-count-eq4097 c = search exits

pub returns-in-Refused : goal.returns-in-Refused
returns-in-Refused c = search exits
