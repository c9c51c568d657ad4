-- `give_growth` meets its contract. Assumes nothing.
use Rattle.gateway_appending.proofs.Numbers.{growth_entered, growth_loose, growth_refused}
use Rattle.gateway_appending.proofs.give_growth.Goals as goal

pub returns-in-Entered : goal.returns-in-Entered
returns-in-Entered c = search (growth_entered, growth_loose, growth_refused)

pub returns-in-Loose : goal.returns-in-Loose
returns-in-Loose c = search (growth_entered, growth_loose, growth_refused)

pub returns-in-Refused : goal.returns-in-Refused
returns-in-Refused c = search (growth_entered, growth_loose, growth_refused)
