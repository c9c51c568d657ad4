-- `vectors::encodings::items` ends: each item has bytes.
-- Assumes nothing.
use Rattle.std.proofs.Common.{refl, arith}
use Rattle.enc_utf_8.proofs.Items.{next-code, next-error}
use Rattle.vectors.proofs.encodings.items.Goals as goal
use Rattle.vectors.proofs.encodings.items.Goals.{in-Code, in-Error}

pub loop-at-smaller : goal.loop-at-smaller
loop-at-smaller c =
    elim c.match-next.branch [
      | in-Code w ↦
          let b = next-code c.args.text.now c.loop-at.at _ w.in-Code.ensures w.in-Code.code w.in-Code.next refl in
          rw w.code-is (omega (arith, b.past, c.loop-at-test.true))
      | in-Error w ↦
          let b = next-error c.args.text.now c.loop-at.at _ w.in-Error.ensures w.in-Error.next refl in
          rw w.code-is (omega (arith, b.past, c.loop-at-test.true))
    ]
