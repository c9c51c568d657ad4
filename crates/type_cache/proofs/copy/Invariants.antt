use mathlib.Core.Path.{◌≡◌}
use lib.Seq.{paste}
use Rattle.type_cache.proofs.copy.Given as goal

abbrev pub invariant-loop-i : goal.invariant-loop-i
invariant-loop-i l = l.buffer ≡ paste l.initial.buffer l.len l.addition l.i
