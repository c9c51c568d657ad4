-- `free_slot` meets its contract. Assumes nothing.
use mathlib.Core.Path.{◌≡◌}
use Prim.Native.Nat.{◌≤◌, ◌<◌, ◌-◌}
use lib.ListN.{length}
use Rattle.type_index.specs.Index.{free_from, free_of}
use Rattle.type_index.proofs.free_slot.Given as goal

abbrev pub invariant-loop : goal.invariant-loop
invariant-loop l = (free_from l.index l.slots l.at (64 - l.counter) ≡ free_of l.book l.index l.name) × (l.at < l.slots) × (l.slots ≤ length l.index)
