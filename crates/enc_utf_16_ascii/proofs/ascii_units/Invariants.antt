-- `enc_utf_16_ascii::ascii_units` meets its contract. The loop's invariant: where nothing is added up so far, the code units so far are ASCII, and of ASCII nothing is. Assumes nothing.
use mathlib.Core.Path.{◌≡◌}
use Prim.Native.Nat.{◌*◌, ◌≤◌}
use Rattle.enc_utf_16_ascii.specs.Ascii16.{AsciiUnits}
use Rattle.enc_utf_16_ascii.proofs.ascii_units.Given as goal

abbrev pub invariant-loop-i : goal.invariant-loop-i
invariant-loop-i l = (l.above ≤ 256 * l.i) × (l.above ≡ 0 → AsciiUnits l.bytes l.at l.i) × (AsciiUnits l.bytes l.at 32 → l.above ≡ 0)
