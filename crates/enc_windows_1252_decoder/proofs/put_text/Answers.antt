-- `put_text` meets its contract. The loop keeps: whatever lays what is left from here on lays the whole. Assumes nothing.
use Rattle.std.proofs.Common.{rules}
use Rattle.enc_windows_1252_decoder.proofs.Decoders.{part_room, part-again, text-end}
use Rattle.enc_windows_1252_decoder.proofs.put_text.Goals as goal

pub put_block-next-requires : goal.put_block-next-requires
put_block-next-requires c = search (part_room, c.in-Some.ensures.steps.1.0)

pub loop-block-preserved : goal.loop-block-preserved
loop-block-preserved c = (search rules, search (part-again, c.in-Some.ensures.steps.1.0))

pub returns : goal.returns
returns c = search (text-end, c.in-None.ensures.steps.1.0)
