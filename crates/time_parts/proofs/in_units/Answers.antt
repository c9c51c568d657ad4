use Rattle.time_parts.proofs.Exits.{units_refused, units_left, units_late, units_told}
use borrow.Author.Rules.{rules}
use Rattle.time_parts.proofs.in_units.Goals as goal

pub returns-then-n-unit-ne0 : goal.returns-then-n-unit-ne0
returns-then-n-unit-ne0 c = search (units_refused, units_left, units_late, units_told, rules)

pub returns-then-largest-n : goal.returns-then-largest-n
returns-then-largest-n c = search (units_refused, units_left, units_late, units_told, rules)

pub returns-in-Some : goal.returns-in-Some
returns-in-Some c = search (units_refused, units_left, units_late, units_told, rules)

pub returns : goal.returns
returns c = search (units_refused, units_left, units_late, units_told, rules)
