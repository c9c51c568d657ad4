use borrow.Author.Rules.{rules}
use Prim.Native.Nat.{◌-◌}
use Rattle.enc_utf_8.proofs.Lays.{rest_all}
use Rattle.enc_utf_8_replacing.proofs.Decoders.{first_stretch, part_room, scalar-room, text-again, text-done, text-less}
use Rattle.enc_utf_8_replacing.proofs.put_text.Goals as goal

-- src/lib.rt:140:5
pub loop-end-init : goal.loop-end-init
loop-end-init c = (search first_stretch, search rest_all)

-- src/lib.rt:141:9
pub put_part-to-requires : goal.put_part-to-requires
put_part-to-requires c = search part_room

-- src/lib.rt:143:9
pub put_scalar-to-requires : goal.put_scalar-to-requires
put_scalar-to-requires c = search scalar-room

-- src/lib.rt:140:5
pub loop-end-smaller : goal.loop-end-smaller
loop-end-smaller c = search text-less

-- src/lib.rt:140:5
pub loop-end-preserved : goal.loop-end-preserved
loop-end-preserved c = (search rules, search text-again)

-- src/lib.rt:147:5
pub put_part-requires : goal.put_part-requires
put_part-requires c = search part_room

-- src/lib.rt:132:1
pub returns : goal.returns
returns c = search text-done
