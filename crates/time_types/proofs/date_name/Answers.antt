use Rattle.time_types.proofs.Names.{is-dt, is-date, is-date-and-time, no-date-name}
use Rattle.time_types.proofs.date_name.Goals as goal

ruleset exits = (is-dt, is-date, is-date-and-time, no-date-name)

pub returns-then-same_name : goal.returns-then-same_name
returns-then-same_name c = search exits

pub returns-then-same_name-2 : goal.returns-then-same_name-2
returns-then-same_name-2 c = search exits

pub returns-then-same_name-3 : goal.returns-then-same_name-3
returns-then-same_name-3 c = search exits

pub returns : goal.returns
returns c = search exits
