use borrow.Author.Rules.{rules}
use Prim.Native.Nat.{◌-◌}
use Rattle.enc_utf_8_replacing.proofs.Decoders.{length-again, length_over, length-fits}
use Rattle.enc_utf_8_replacing.proofs.decoded_len.Goals as goal

-- src/lib.rt:83:5
pub loop-at-init : goal.loop-at-init
loop-at-init c = (search rules, search rules, search rules)

-- src/lib.rt:86:13
pub returns-then-room-used : goal.returns-then-room-used
returns-then-room-used c = search length_over

-- src/lib.rt:83:5
pub loop-at-preserved : goal.loop-at-preserved
loop-at-preserved c = (search rules, search rules, search length-again)

-- src/lib.rt:78:1
pub returns : goal.returns
returns c = search length-fits
