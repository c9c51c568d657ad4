use mathlib.Core.Path.{◌≡◌}
use Prim.Native.Nat.{◌≤◌}
use native.Mathlib.Omega.{arith}
use lib.ListN.{length}
use borrow.Author.Rules.{rules}
use Rattle.enc_ascii.proofs.Copies.{first-next}
use Rattle.ser.proofs.serializer.restore.Goals as goal

pub loop-i-preserved : goal.loop-i-preserved
loop-i-preserved c =
    let e : length c.args.output.now ≡ length c.args.image.now = search rules in
    let k : length c.args.image.now ≤ length c.args.output.now = omega arith in
    search first-next
