-- `in_list` meets its contract. The loop keeps: what is asked is whether one of the blocks from place `b-index` on names it.
use mathlib.Core.Path.{◌≡◌}
use lib.ListN.{take as first, drop}
use Rattle.resolve_walk_scratch.specs.Scratch.{has_ref}
use Rattle.resolve_walk_scratch.proofs.in_list.Given as goal

abbrev pub invariant-loop-b : goal.invariant-loop-b
invariant-loop-b l = has_ref l.book (first l.n l.list) l.name ≡ has_ref l.book (drop l.b-index (first l.n l.list)) l.name
