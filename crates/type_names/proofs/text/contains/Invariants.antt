use mathlib.Core.Path.{◌≡◌}
use lib.ListN.{drop}
use Rattle.type_names.specs.Text.{contains}
use Rattle.type_names.proofs.text.contains.Given as goal

abbrev pub invariant-loop-i : goal.invariant-loop-i
invariant-loop-i l = contains l.name l.part ≡ contains (drop l.i l.name) l.part
