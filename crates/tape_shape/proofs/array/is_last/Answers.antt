use Rattle.tape_shape.specs.Array.{is_last}
use Rattle.tape_shape.proofs.array.is_last.Goals as goal

pub returns : goal.returns
unfolding is_last
returns c = rw (c.from.ensures, c.from-2.ensures, c.dimensions.ensures)
