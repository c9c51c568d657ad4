use mathlib.Core.Path.{◌≡◌}
use lib.ListN.{length}
use Rattle.ser_first_fields.specs.Firsts.{Firsts}
use Rattle.ser_first_fields.proofs.note_many.Given as goal

abbrev pub invariant-loop-c : goal.invariant-loop-c
invariant-loop-c l = (length l.firsts ≡ length l.initial.firsts) × Firsts l.book l.t l.firsts
