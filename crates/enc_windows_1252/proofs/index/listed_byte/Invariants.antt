-- `listed_byte` meets its contract. The loop keeps: what is left of the search gives the whole. Assumes nothing.
use mathlib.Core.Path.{◌≡◌}
use Prim.Native.Nat.{◌-◌}
use Rattle.enc_windows_1252.specs.Index.{first_from}
use Rattle.enc_windows_1252.proofs.index.listed_byte.Given as goal

abbrev pub invariant-loop-byte : goal.invariant-loop-byte
invariant-loop-byte l = first_from l.code 0x80 0x20 ≡ first_from l.code l.byte (0xa0 - l.byte)
