-- `enc_utf_16_ascii::copy_units` meets its contract. The loop's invariant: the low bytes that are left, written from here on, make the buffer that all of them make. Assumes nothing.
use Prim.Native.Nat.{◌+◌, ◌*◌, ◌-◌}
use Rattle.enc_utf_16.specs.Step.{LeftToWrite}
use Rattle.enc_utf_16_ascii.specs.Ascii16.{lows}
use Rattle.enc_utf_16_ascii.proofs.copy_units.Given as goal

abbrev pub invariant-loop-i : goal.invariant-loop-i
invariant-loop-i l = LeftToWrite (lows l.bytes l.at 32) l.initial.out l.to (lows l.bytes (l.at + 2 * l.i) (32 - l.i)) l.out (l.to + l.i)
