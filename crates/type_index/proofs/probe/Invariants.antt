-- `probe` meets its contract. Assumes nothing.
use mathlib.Core.Path.{◌≡◌}
use Prim.Native.Nat.{◌≤◌, ◌<◌, ◌-◌}
use lib.ListN.{length}
use Rattle.type_index.specs.Index.{probe_from, probe_of}
use Rattle.type_index.proofs.probe.Given as goal

abbrev pub invariant-loop : goal.invariant-loop
invariant-loop l = (probe_from l.book l.index l.name l.slots l.at (64 - l.counter) ≡ probe_of l.book l.index l.name) × (l.at < l.slots) × (l.slots ≤ length l.index)
