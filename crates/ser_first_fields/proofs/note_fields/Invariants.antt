use mathlib.Core.Path.{◌≡◌}
use lib.ListN.{length}
use Rattle.ser_first_fields.specs.Firsts.{Met, Firsts}
use Rattle.ser_first_fields.proofs.note_fields.Given as goal

abbrev pub invariant-loop-i : goal.invariant-loop-i
invariant-loop-i l = (length l.names ≡ length l.initial.names) × (length l.firsts ≡ length l.initial.firsts) × Met l.book l.t l.k l.c l.names l.i × Firsts l.book l.t l.firsts
