use native.Mathlib.Omega.{arith}
use Rattle.time_parts.proofs.Clock.{hours-few, minutes-few, seconds-few, nanoseconds-few, clock_of_is}
use borrow.Author.Rules.{rules}
use Rattle.time_parts.proofs.clock_of.Goals as goal

pub overflow_mul-result : goal.overflow_mul-result
overflow_mul-result c = omega (arith, hours-few _ c.requires, minutes-few _ c.requires, seconds-few _ c.requires)

pub overflow_add-result : goal.overflow_add-result
overflow_add-result c = omega (arith, hours-few _ c.requires, minutes-few _ c.requires, seconds-few _ c.requires, nanoseconds-few _ c.requires)

pub returns : goal.returns
returns c = search (clock_of_is, rules)
