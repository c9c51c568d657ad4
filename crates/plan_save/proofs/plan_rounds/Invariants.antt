use Rattle.plan_save.proofs.Turns.{RoundsTo}
use mathlib.Core.Path.{◌≡◌}
use lib.ListN.{length}
use Rattle.plan_adds.specs.Adds.{ours}
use Rattle.plan_save.specs.Rounds.{plan_from}
use Rattle.plan_save.proofs.plan_rounds.Given as goal

abbrev pub invariant-loop-left : goal.invariant-loop-left
invariant-loop-left l = RoundsTo (plan_from l.controller l.width l.root 18 (ours l.initial.buffer l.len)) l.controller l.width l.root l.buffer l.at l.known l.left l.index l.trust × (length l.buffer ≡ length l.initial.buffer) × (length l.index ≡ length l.initial.index) × (length l.known ≡ length l.initial.known) × (length l.scratch ≡ length l.initial.scratch) × (length l.list ≡ length l.initial.list)
