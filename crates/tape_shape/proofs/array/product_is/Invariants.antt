use Prim.Native.Nat.{◌-◌}
use Rattle.tape_shape.proofs.Products.{Multiplied}
use Rattle.tape_shape.proofs.array.product_is.Given as goal

abbrev pub invariant-loop-d : goal.invariant-loop-d
invariant-loop-d l = Multiplied l.book l.t l.e l.d (l.dims - l.d) l.p
