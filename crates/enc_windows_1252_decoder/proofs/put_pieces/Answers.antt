-- `put_pieces` meets its contract. The loop keeps: whatever lays what is left from here on lays the whole. Assumes nothing.
use Rattle.std.proofs.Common.{rules}
use Rattle.enc_windows_1252_decoder.proofs.Decoders.{part_room, part-again, text-end}
use Rattle.enc_windows_1252_decoder.proofs.put_pieces.Goals as goal

pub put_piece-next-requires : goal.put_piece-next-requires
put_piece-next-requires c = search (part_room, c.in-Some.ensures.steps.1.0)

pub loop-piece-preserved : goal.loop-piece-preserved
loop-piece-preserved c = (search rules, search (part-again, c.in-Some.ensures.steps.1.0))

pub returns : goal.returns
returns c = search (text-end, c.in-None.ensures.steps.1.0)
