use mathlib.Core.Path.{◌≡◌}
use Prim.Native.Nat.{◌-◌}
use lib.ListN.{length}
use lib.Seq.{sets}
use Rattle.resolve_field_records.specs.Stored.{resolved_records_at}
use Rattle.resolve_field_records.proofs.fill_records.Given as goal

-- the records that are left, stored from field i on, give the whole
abbrev pub invariant-loop-i : goal.invariant-loop-i
invariant-loop-i l =
    (length l.records ≡ length l.initial.records)
    × (sets l.records l.i (resolved_records_at l.buffer l.len l.width l.root l.i (l.n - l.i)) ≡ sets l.initial.records 0 (resolved_records_at l.buffer l.len l.width l.root 0 l.n))
