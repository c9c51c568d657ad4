use mathlib.Core.Path.{◌≡◌}
use Prim.Native.Nat.{◌≤◌, ◌+◌, ◌*◌}
use lib.ListN.{drop}
use Rattle.type_block_form.specs.Form.{sum_of, every, is_printable}
use Rattle.type_block_form.proofs.name_sum.Given as goal

abbrev pub invariant-loop-byte : goal.invariant-loop-byte
invariant-loop-byte l = (l.total ≤ 255 * l.byte-index) × (every is_printable l.name ≡ every is_printable (drop l.byte-index l.name)) × (sum_of l.name ≡ l.total + sum_of (drop l.byte-index l.name))
