use mathlib.Core.Path.{refl}
use Rattle.de_leaves.proofs.Leaves.{leaf-count, leaf-number, leaf-text, leaf-enum, leaf_pointer, leaf-unit, leaf-none}
use Rattle.de_leaves.proofs.Numbers.{leaf-says}
use Rattle.de_leaves.proofs.leaf.leaf_by.Goals as goal

ruleset exits = (leaf-count, leaf-number, leaf-text, leaf-enum, leaf_pointer, leaf-unit, leaf-none, refl)

pub returns-then-count-ne0 : goal.returns-then-count-ne0
returns-then-count-ne0 c = leaf-says _ _ (search exits)

pub returns-in-Number : goal.returns-in-Number
returns-in-Number c = leaf-says _ _ (search exits)

pub returns-in-Text : goal.returns-in-Text
returns-in-Text c = leaf-says _ _ (search exits)

pub returns-in-Enum : goal.returns-in-Enum
returns-in-Enum c = leaf-says _ _ (search exits)

pub returns-in-Pointer : goal.returns-in-Pointer
returns-in-Pointer c = leaf-says _ _ (search exits)

pub returns-in-Unit : goal.returns-in-Unit
returns-in-Unit c = leaf-says _ _ (search exits)

pub returns-in-None : goal.returns-in-None
returns-in-None c = leaf-says _ _ (search exits)
