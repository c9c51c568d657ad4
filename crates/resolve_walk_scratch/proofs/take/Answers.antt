-- `take` meets its contract. Assumes nothing.
use Rattle.resolve_walk_scratch.proofs.Stacks.{took-own, took-last, took_more}
use Prim.Native.Nat.{◌-◌}
use native.Mathlib.Omega.{arith}
use Rattle.resolve_walk_scratch.proofs.take.Goals as goal

ruleset exits = (took-own, took-last, took_more)

pub returns-then-k-eq0 : goal.returns-then-k-eq0
returns-then-k-eq0 c = search exits

pub overflow_add-result : goal.overflow_add-result
overflow_add-result c = omega (arith, c.slice_known-1.given (c.args.depth - 1))

pub returns-then-k-eq1 : goal.returns-then-k-eq1
returns-then-k-eq1 c = search exits

pub overflow_add-result-2 : goal.overflow_add-result-2
overflow_add-result-2 c = omega (arith, c.slice_known-1.given (c.args.depth - 1))

pub returns : goal.returns
returns c = search exits
