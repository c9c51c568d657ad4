use mathlib.Core.Path.{◌≡◌}
use lib.ListN.{length}
use Rattle.resolve_field_plan.proofs.Plans.{Planning}
use Rattle.resolve_field_plan.proofs.plan_fields_in.Given as goal

abbrev pub invariant-loop-i : goal.invariant-loop-i
invariant-loop-i l = (length l.plan ≡ length l.initial.plan) × (length l.last ≡ 32) × Planning l.book l.width l.t l.i-end l.initial.plan l.i l.plan
