use Rattle.time_types.proofs.Names.{is-ltime, is-ldate, is-ldt, is-ltod, no-long-name}
use Rattle.time_types.proofs.long_name.Goals as goal

ruleset exits = (is-ltime, is-ldate, is-ldt, is-ltod, no-long-name)

pub returns-then-same_name : goal.returns-then-same_name
returns-then-same_name c = search exits

pub returns-then-same_name-2 : goal.returns-then-same_name-2
returns-then-same_name-2 c = search exits

pub returns-then-same_name-3 : goal.returns-then-same_name-3
returns-then-same_name-3 c = search exits

pub returns-then-same_name-4 : goal.returns-then-same_name-4
returns-then-same_name-4 c = search exits

pub returns : goal.returns
returns c = search exits
