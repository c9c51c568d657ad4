-- `surely_fits` meets its contract. The loop keeps: the whole is at most the most so far and what is left. Assumes nothing.
use Rattle.std.proofs.Common.{rules}
use Rattle.enc_windows_1252_decoder.proofs.Decoders.{sure_part, sure_end}
use Rattle.enc_windows_1252_decoder.proofs.surely_fits.Goals as goal

pub loop-block-preserved : goal.loop-block-preserved
loop-block-preserved c = (search rules, search rules, search (sure_part, c.in-Some.ensures.steps.1.0))

pub returns : goal.returns
returns c = search (sure_end, c.in-None.ensures.steps.1.0)
