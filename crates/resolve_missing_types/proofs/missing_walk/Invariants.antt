-- `missing_walk` meets its contract. Assumes nothing.
use mathlib.Core.Path.{◌≡◌}
use lib.ListN.{length}
use Rattle.resolve_walk.specs.Walk.{walk_of}
use Rattle.type_index.specs.Trust.{Trusted}
use Rattle.resolve_missing_types.specs.State.{Pending, pend}
use Rattle.resolve_missing_types.proofs.missing_walk.Given as goal

abbrev pub invariant-loop-now : goal.invariant-loop-now
invariant-loop-now l = Pending l.book l.width (walk_of l.book l.width l.root) l.initial.list l.scratch l.list l.at.left l.at.n l.at.ok l.e × (length l.scratch ≡ length l.initial.scratch) × Trusted l.book l.index l.trust

abbrev pub decreases-loop-now : goal.decreases-loop-now
decreases-loop-now l = pend l.scratch l.at.left l.e
