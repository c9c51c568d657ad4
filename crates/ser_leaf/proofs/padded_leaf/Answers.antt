use Rattle.std.specs.Prelude.{Some, None}
use mathlib.Core.Path.{refl}
use Prim.Native.Nat.{◌-◌}
use lib.ListN.{length, take}
use Rattle.std.specs.Fn.{FnOnceReturnsAtMut}
use Rattle.ser_leaf.proofs.Leaves.{padded-short, padded-full, padded-done}
use Rattle.ser_leaf.proofs.padded_leaf.Goals as goal

pub returns-then-out-zeros : goal.returns-then-out-zeros
returns-then-out-zeros g c = λ bs all. padded-short bs c.args.zeros c.args.out.now c.if-out-zeros.true

pub returns-in-Some : goal.returns-in-Some
returns-in-Some g c = λ bs all.
    let gave : FnOnceReturnsAtMut g.E.FnOnce c.args.encode (take (length c.args.out.now - c.args.zeros) c.args.out.now) (Some c.in-Some.n) c.encode.new.arg2 = record { shown = _; shows = refl; left = _; met = c.in-Some.ensures; leaves = refl } in
    padded-done bs c.args.zeros c.args.out.now c.if-out-zeros.false (all _ _ _ gave) c.in-Some.n refl c.clear_from.ensures

pub returns-in-None : goal.returns-in-None
returns-in-None g c = λ bs all.
    let gave : FnOnceReturnsAtMut g.E.FnOnce c.args.encode (take (length c.args.out.now - c.args.zeros) c.args.out.now) None c.encode.new.arg2 = record { shown = _; shows = refl; left = _; met = c.in-None.ensures; leaves = refl } in
    padded-full bs c.args.zeros c.args.out.now c.if-out-zeros.false (all _ _ _ gave) refl
