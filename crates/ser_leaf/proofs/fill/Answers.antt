use mathlib.Core.Path.{◌≡◌}
use Prim.Native.Nat.{◌<◌, ◌≤◌}
use native.Mathlib.Omega.{arith}
use lib.ListN.{length}
use Rattle.enc_ascii.proofs.Copies.{first_none, first-next, first_all}
use Rattle.ser_leaf.proofs.Leaves.{fill-other, fill-same}
use Rattle.validators.proofs.Validities.{size_is, size-other}
use Rattle.ser_leaf.proofs.fill.Goals as goal

pub returns-in_default : goal.returns-in_default
returns-in_default c = search (fill-other, size-other)

pub loop-i-init : goal.loop-i-init
loop-i-init c = search first_none

pub bounds-out-i : goal.bounds-out-i
bounds-out-i c =
    let e : length c.args.bytes.now ≡ length c.args.out.now = search size_is in
    let t : c.loop-i.i < length c.args.bytes.now = c.loop-i-test.true in
    let l : length c.loop-i.out ≡ length c.args.out.now = c.loop-i.auto.out in
    omega arith

pub loop-i-preserved : goal.loop-i-preserved
loop-i-preserved c =
    let e : length c.args.bytes.now ≡ length c.args.out.now = search size_is in
    let k : length c.args.bytes.now ≤ length c.args.out.now = omega arith in
    search first-next

pub returns : goal.returns
returns c =
    let e : length c.args.bytes.now ≡ length c.args.out.now = search size_is in
    let k : length c.args.out.now ≤ length c.args.bytes.now = omega arith in
    search (fill-same, first_all)
