-- `rmw_walk` meets its contract. Assumes nothing.
use mathlib.Core.Path.{◌≡◌}
use lib.ListN.{length}
use Rattle.resolve_walk.specs.Walk.{walk_of}
use Rattle.resolve_read_modify_write.specs.State.{Here, loop_work}
use Rattle.resolve_read_modify_write.proofs.rmw_walk.Given as goal

abbrev pub invariant-loop-here : goal.invariant-loop-here
invariant-loop-here l = Here l.book l.width (walk_of l.book l.width l.root) l.scratch l.here × (length l.scratch ≡ length l.initial.scratch)

abbrev pub decreases-loop-here : goal.decreases-loop-here
decreases-loop-here l = loop_work l.scratch l.here
