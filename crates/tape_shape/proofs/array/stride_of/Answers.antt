use Rattle.tape_shape.proofs.Products.{stride_is, stride_none}
use Rattle.tape_shape.proofs.array.stride_of.Goals as goal

pub returns-then-n-eq0 : goal.returns-then-n-eq0
returns-then-n-eq0 c = search stride_none

pub returns : goal.returns
returns c = search stride_is
