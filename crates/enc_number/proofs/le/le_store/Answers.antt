-- `enc_number::le::le_store` meets its contract. Assumes nothing.
use mathlib.Core.Path.{◌≡◌, ◌∙◌, sym}
use Prim.Native.Nat.{◌<◌, ◌≤◌}
use native.Mathlib.Omega.{arith}
use lib.ListN.{length}
use lib.Seq.{length-take-le}
use Rattle.enc_number.proofs.ByteOrder.{store-more, store-end}
use Rattle.enc_number.proofs.le.le_store.Goals as goal

pub loop-byte-preserved : goal.loop-byte-preserved
loop-byte-preserved c =
    let w = c.min-width.result in
    let e : w ≡ length c.loop-byte.byte-items = sym (length-take-le w c.args.out.now (omega arith)) ∙ sym c.loop-byte.auto.byte-items in
    let t = c.loop-byte-test.true in
    let h : c.loop-byte.byte-index < w = omega arith in
    search store-more

pub returns : goal.returns
returns c =
    let w = c.min-width.result in
    let e : w ≡ length c.loop-byte.byte-items = sym (length-take-le w c.args.out.now (omega arith)) ∙ sym c.loop-byte.auto.byte-items in
    let t = c.loop-byte-test.false in
    let h : w ≤ c.loop-byte.byte-index = omega arith in
    search store-end
