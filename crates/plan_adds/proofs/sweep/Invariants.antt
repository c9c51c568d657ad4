use Rattle.plan_adds.proofs.Lists.{SweepsTo}
use mathlib.Core.Path.{◌≡◌}
use lib.ListN.{length}
use Rattle.plan_adds.specs.Adds.{ours, sweep}
use Rattle.plan_adds.proofs.sweep.Given as goal

abbrev pub invariant-loop-i : goal.invariant-loop-i
invariant-loop-i l = SweepsTo (sweep l.controller l.by.width l.by.from (ours l.initial.buffer l.len)) l.controller l.by.width l.initial.buffer l.len l.i l.due l.buffer l.at l.known × (length l.buffer ≡ length l.initial.buffer) × (length l.known ≡ length l.initial.known)
