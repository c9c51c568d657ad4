use Rattle.plan_adds.proofs.Lists.{AddsTo}
use mathlib.Core.Path.{◌≡◌}
use lib.ListN.{length, take}
use Rattle.plan_adds.specs.Adds.{ours, add_listed}
use Rattle.plan_adds.proofs.add_listed.Given as goal

abbrev pub invariant-loop-b : goal.invariant-loop-b
invariant-loop-b l = AddsTo (add_listed l.controller (take l.n l.list) (ours l.initial.buffer l.len)) l.controller (take l.n l.list) l.initial.buffer l.len l.b-index l.buffer l.at l.known × (length l.buffer ≡ length l.initial.buffer) × (length l.known ≡ length l.initial.known)
