use mathlib.Core.Path.{◌≡◌}
use Prim.Native.Nat.{◌≤◌, ◌+◌, ◌*◌}
use lib.ListN.{drop}
use Rattle.type_block_form.specs.Form.{sum_of}
use Rattle.type_block_form.proofs.sum.Given as goal

abbrev pub invariant-loop-byte : goal.invariant-loop-byte
invariant-loop-byte l = (l.total ≤ 255 * l.byte-index) × (sum_of l.part ≡ l.total + sum_of (drop l.byte-index l.part))
