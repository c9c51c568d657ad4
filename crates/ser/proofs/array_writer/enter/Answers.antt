use Rattle.ser.proofs.Exits.{enter-map, enter-leaf, enter_odd, enter-lacks, enter-endless, enter-other, enter-element}
use Rattle.validators.proofs.Validities.{size_is, size-other}
use Rattle.ser.proofs.array_writer.enter.Goals as goal

ruleset exits = (enter-map, enter-leaf, enter_odd, enter-lacks, enter-endless, enter-other, enter-element, size_is, size-other)

pub returns-in_default : goal.returns-in_default
returns-in_default c = search exits

pub returns-then-product_is : goal.returns-then-product_is
returns-then-product_is c = search exits

pub returns-else-product_is : goal.returns-else-product_is
returns-else-product_is c = search exits

pub returns-in-NotFound : goal.returns-in-NotFound
returns-in-NotFound c = search exits

pub returns-in-TooLong : goal.returns-in-TooLong
returns-in-TooLong c = search exits

pub returns-in-Map : goal.returns-in-Map
returns-in-Map c = search exits

pub returns-in-Leaf : goal.returns-in-Leaf
returns-in-Leaf c = search exits
