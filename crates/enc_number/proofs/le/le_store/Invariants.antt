-- `enc_number::le::le_store` meets its contract. Assumes nothing.
use mathlib.Core.Path.{◌≡◌}
use mathlib.Core.List.{◌++◌}
use Prim.Native.Nat.{◌-◌}
use lib.ListN.{take}
use Rattle.enc_number.specs.Le.{le_bytes}
use Rattle.enc_number.proofs.le.le_store.Given as goal

abbrev pub invariant-loop-byte : goal.invariant-loop-byte
invariant-loop-byte l = take l.byte-index l.byte-items ++ le_bytes (l.width - l.byte-index) l.rest ≡ le_bytes l.width l.value
