-- `copy` meets its contract. The loop keeps: whatever lays what is left from here on lays the whole. Assumes nothing.
use Prim.Native.Nat.{◌+◌}
use lib.ListN.{drop}
use Rattle.enc_utf_8.proofs.Lays.{Rest}
use Rattle.enc_ascii.proofs.copy.Given as goal

abbrev pub invariant-loop-i : goal.invariant-loop-i
invariant-loop-i l = Rest l.bytes l.initial.out l.at (drop l.i l.bytes) l.out (l.at + l.i)
